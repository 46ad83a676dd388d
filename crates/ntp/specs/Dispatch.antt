-- NTP-3: the table of actions, RFC 5905 figure 20, with the numbers of its appendix A.5.
use Rattle.std.specs.Prelude.{ℕ, ◌-◌, Bool, true, false, List, [], ◌∷◌, ℤ, pos, negsuc, slice_index_or}
use Rattle.ntp.specs.declared.Action.{Action}
use Rattle.ntp.specs.declared.Action.TheVariants.{Error, Discard, Process, Reply, Manycast, Passive, Broadcast}

-- NTP-3: the number of each action
abbrev pub action_number : Action → ℤ
action_number Error = negsuc 0  -- ERR
action_number Discard = pos 0  -- DSCRD
action_number Process = pos 1  -- PROC
action_number Reply = pos 3  -- FXMIT: send a server reply
action_number Manycast = pos 4  -- MANY: a new manycast client association
action_number Passive = pos 5  -- NEWPS: a new symmetric passive association
action_number Broadcast = pos 6  -- NEWBC: a new broadcast client association

-- NTP-3: is a packet to be processed?
abbrev pub is_process : Action → Bool
is_process Process = true
is_process _ = false

-- NTP-3: the last row of the table; row 0 is no association
abbrev pub last_association : ℕ
last_association = 6

-- NTP-3: the table: a row for each association, a column for each packet mode
abbrev pub figure20 : List (List Action)
figure20 =
    -- 1 symmetric active, 2 symmetric passive, 3 client, 4 server, 5 broadcast
    (Passive ∷ Discard ∷ Reply ∷ Manycast ∷ Broadcast ∷ [])  -- 0 no association
    ∷ (Process ∷ Process ∷ Discard ∷ Discard ∷ Discard ∷ [])  -- 1 symmetric active
    ∷ (Process ∷ Error ∷ Discard ∷ Discard ∷ Discard ∷ [])  -- 2 symmetric passive
    ∷ (Discard ∷ Discard ∷ Discard ∷ Process ∷ Discard ∷ [])  -- 3 client
    ∷ (Discard ∷ Discard ∷ Discard ∷ Discard ∷ Discard ∷ [])  -- 4 server
    ∷ (Discard ∷ Discard ∷ Discard ∷ Discard ∷ Discard ∷ [])  -- 5 broadcast
    ∷ (Discard ∷ Discard ∷ Discard ∷ Discard ∷ Process ∷ [])  -- 6 broadcast client
    ∷ []

-- NTP-3: the action of an association and a packet mode
abbrev pub dispatch : (association mode : ℕ) → Action
dispatch association mode = slice_index_or (slice_index_or figure20 association []) (mode - 1) Discard
