-- PROGRAM-1: a host by value after a call.
use Rattle.calls.specs.Perform.{Outcome}
use Rattle.owned_host.specs.declared.HostReply.{HostReply}

-- PROGRAM-1: the reply, and the state after it
abbrev pub host_reply_of : Outcome → HostReply
host_reply_of o = record { reply = o.reply; clock = o.clock; links = o.links; walk = o.walk; entries = o.entries }
