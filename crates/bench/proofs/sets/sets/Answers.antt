-- After each turn one more host is initialized.
use mathlib.Core.Path.{◌≡◌, refl, sym, ap, subst⁻¹, ◌∙◌}
use mathlib.Core.List.{List, []}
use Prim.Native.Nat.{ℕ, suc, ◌+◌}
use native.Mathlib.Omega.{arith}
use Rattle.net_table.specs.declared.NetTable.{NetTable}
use Rattle.table.specs.declared.Entry.{Entry}
use Rattle.calls.specs.declared.Request.TheVariants.{Initialize}
use Rattle.bench_file.specs.Header.{header_of}
use Rattle.bench.specs.declared.HostState.{HostState}
use Rattle.bench.specs.Bench.{Bench, bench}
use Rattle.bench.specs.Event.{asked}
use Rattle.bench.specs.Run.{all_set}
use Rattle.bench.specs.code.Sets.{HostsAfter, SetLeaves}
use Rattle.bench.proofs.Initialized.{one_more_set, beside}
use Rattle.bench.proofs.sets.sets.Goals as goal

-- a host initialized, with no slots and no answers
abbrev alone : (file : List ℕ) → NetTable → List HostState → (copies : List ℕ) → List Entry → (host : ℕ) → Bench
alone file t hosts copies entries k = (asked file t (header_of file) k Initialize (bench hosts copies entries [] [] 0)).bench

module _ (file : List ℕ) (t : NetTable) (hosts : List HostState) (copies : List ℕ) (entries : List Entry) (slots answers : List ℕ) (m : ℕ) where
  abbrev start : Bench
  start = bench hosts copies entries slots answers m

  abbrev set_to : ℕ → Bench
  set_to n = all_set file t 0 n start

  none_yet : HostsAfter (set_to 0) hosts entries
  unfolding all_set
  none_yet = record { hosts = refl; entries = refl }

  one_more : (n : ℕ) (hosts' hosts'' : List HostState) (entries' entries'' : List Entry) → HostsAfter (set_to n) hosts' entries' → SetLeaves file t hosts' copies entries' n hosts'' entries'' → HostsAfter (set_to (suc n)) hosts'' entries''
  one_more n hosts' hosts'' entries' entries'' before did =
      let e = one_more_set file t 0 n start in
      let is : 0 + n ≡ n = omega arith in
      let b = beside file t 0 n start in
      let d = did [] [] 0 in
      record {
        hosts = d.hosts ∙ (λ i. (alone file t (before.hosts i) (sym b.copies i) (before.entries i) (sym is i)).hosts) ∙ sym (ap (λ (x : Bench). x.hosts) e);
        entries = d.entries ∙ (λ i. (alone file t (before.hosts i) (sym b.copies i) (before.entries i) (sym is i)).entries) ∙ sym (ap (λ (x : Bench). x.entries) e);
      }

pub loop-i-init : goal.loop-i-init
loop-i-init c =
    let a = c.args in
    λ slots answers m. none_yet a.file.now a.net_table.now a.hosts.now a.copies.now a.entries.now slots answers m

pub loop-i-preserved : goal.loop-i-preserved
loop-i-preserved c =
    let a = c.args in
    let l = c.loop-i in
    let more : l.i + 1 ≡ suc l.i = omega arith in
    λ slots answers m. subst⁻¹ (λ (n : ℕ). HostsAfter (set_to a.file.now a.net_table.now a.hosts.now a.copies.now a.entries.now slots answers m n) c.set_at.new.hosts c.set_at.new.entries) more
    (one_more a.file.now a.net_table.now a.hosts.now a.copies.now a.entries.now slots answers m l.i l.hosts _ l.entries _ (l.invariant slots answers m) c.set_at.ensures)
