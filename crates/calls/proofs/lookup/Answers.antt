-- The guard; then the id that is found, its place, and its entry.
use mathlib.Core.Path.{refl}
use Rattle.calls.specs.declared.Request.TheVariants.{Lookup}
use Rattle.calls.specs.Perform.{ask}
use Rattle.calls.proofs.Performed.{seekable, sought}
use Rattle.calls.proofs.HostAfter.{after_looked}
use Rattle.calls.proofs.Guarding.{passes, refuses}
use Rattle.calls.proofs.lookup.Goals as goal

pub returns-then-refuses : goal.returns-then-refuses
returns-then-refuses c =
    refuses (ask (Lookup c.args.address)) _ refl c.guard-g.ensures c.refuses.ensures c.if-refuses.true c.plainly.ensures

pub seek_at-z-requires : goal.seek_at-z-requires
seek_at-z-requires c =
    let on = passes (ask (Lookup c.args.address)) _ refl c.guard-g.ensures c.refuses.ensures c.if-refuses.false in
    rw (c.found_for-f.ensures) (seekable _ (Lookup c.args.address) on)

pub entry_of-e-requires : goal.entry_of-e-requires
entry_of-e-requires c =
    let on = passes (ask (Lookup c.args.address)) _ refl c.guard-g.ensures c.refuses.ensures c.if-refuses.false in
    rw (c.seek_at-z.ensures, c.found_for-f.ensures) (sought _ (Lookup c.args.address) on).there

pub returns : goal.returns
returns c =
    let on = passes (ask (Lookup c.args.address)) _ refl c.guard-g.ensures c.refuses.ensures c.if-refuses.false in
    rw (c.looked.ensures, c.entry_of-e.ensures, c.seek_at-z.ensures, c.found_for-f.ensures) (after_looked _ c.args.address on)
