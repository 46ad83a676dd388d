-- What the writer and the reader deliver is what their definitions say: by the tests, in their order.
use mathlib.Core.Path.{◌≡◌, refl, ap, ◌∙◌}
use mathlib.Core.Bool.{true, false}
use mathlib.Core.List.{List}
use Prim.Native.Nat.{ℕ}
use native.Mathlib.Omega.{arith}
use lib.ListN.{length, take}
use lib.Seq.{take_at}
use Rattle.wire.specs.Hello.{hello_form}
use Rattle.std.specs.Prelude.{Result, Ok, Err}
use Rattle.std.specs.Result.{result_unwrap_or}
use Rattle.text.specs.declared.Refusal.{Refusal}
use Rattle.text.specs.declared.Refusal.TheVariants.{HelloForm}
use Rattle.text.specs.Numbers.{numbers_of}
use Rattle.text.specs.Text.{text_of}
use Rattle.text.specs.Answers.{Made, answer, octets, returned, into, to_text, Leaves}
use Rattle.text.specs.code.Put.{Put}

-- what was put at the start
pub put_taken : {b a xs : List ℕ} {n : ℕ} → Put b a 0 n xs → take n a ≡ xs
put_taken {b} {a} {xs} {n} f =
    let e : length xs ≡ n = omega (arith, f.behind) in
    ap (take n) f.buffer ∙ take_at xs _ n e

pub bad_message : (m b : List ℕ) → hello_form m ≡ false → Leaves (to_text m (length b)) (Err HelloForm) b b
unfolding to_text
bad_message m b e = rw e (record { outcome = refl; buffer = refl })

pub good_message : (m b a xs : List ℕ) (returned : Result ℕ Refusal) → hello_form m ≡ true → xs ≡ text_of (numbers_of m)
    → Leaves (into (length b) xs) returned b a
    → Leaves (to_text m (length b)) returned b a
unfolding to_text
good_message m b a xs returned e q l = rw (e, ← q) l

-- ---- what a caller has of it

pub answer_of : (m : Made) → answer (returned m) ≡ answer m
answer_of (Ok xs) = refl
answer_of (Err refusal) = refl

pub length_of : (m : Made) → result_unwrap_or (returned m) 0 ≡ length (octets m)
length_of (Ok xs) = refl
length_of (Err refusal) = refl
