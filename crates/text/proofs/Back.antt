-- The three theorems, from what holds of texts and of messages.
use mathlib.Core.Path.{◌≡◌, refl, sym, ap, ◌∙◌}
use mathlib.Core.Bool.{Bool, true, false, cond, not, false≢true}
use mathlib.Core.List.{List}
use Prim.Native.Nat.{ℕ, ◌≤◌}
use native.Mathlib.Omega.{arith}
use borrow.Author.Tests.{le-ltb}
use lib.Dec.{ltb}
use lib.ListN.{length}
use Rattle.wire.specs.Hello.{hello_form}
use Rattle.text.specs.declared.Refusal.TheVariants.{ShortBuffer, HelloForm, TextForm, FieldRange}
use Rattle.text.specs.Numbers.{Numbers, numbers_of, message_of, numbers_fit}
use Rattle.text.specs.Text.{text_of, form, numbers_in}
use Rattle.std.specs.Prelude.{IsOk}
use Rattle.text.specs.Answers.{Made, refused, made, answer, octets, into, to_text, from_text}
use Rattle.text.specs.Back.{Octets, MessageBack, TextBack, NeverRefused}
use Rattle.text.proofs.TextBack.{all_fit, text_formed, text_numbers, text_counts, text_back}
use Rattle.text.proofs.MessageBack.{numbers_there, message_formed, message_there}

-- ---- the two definitions, past their tests

roomy : (room : ℕ) (xs : List ℕ) → length xs ≤ room → into room xs ≡ made xs
roomy room xs h = rw (le-ltb room (length xs) h)

writes : (m : List ℕ) (room : ℕ) → hello_form m ≡ true → to_text m room ≡ into room (text_of (numbers_of m))
unfolding to_text
writes m room e = rw e

reads : (t : List ℕ) (room : ℕ) → form t ≡ true → numbers_fit (numbers_in t) ≡ true → from_text t room ≡ into room (message_of (numbers_in t))
unfolding from_text
reads t room e f = rw (e, f)

-- what the writer writes is read as the numbers that it had
reads_written : (m : List ℕ) (room : ℕ) → Octets m → hello_form m ≡ true → from_text (text_of (numbers_of m)) room ≡ into room (message_of (numbers_of m))
reads_written m room o e =
    let t = message_there m o e in
    let a = all_fit (numbers_of m) t.fit in
    let n = text_numbers (numbers_of m) a t.counts in
    reads (text_of (numbers_of m)) room (text_formed (numbers_of m) a t.counts) (ap numbers_fit n ∙ t.fit) ∙ ap (λ (s : Numbers). into room (message_of s)) n

-- ---- there was no refusal

-- what comes last
record Delivered (room : ℕ) (xs : List ℕ) : Type 0 where
  is : into room xs ≡ made xs

done_into : (room : ℕ) (xs : List ℕ) → IsOk (into room xs) → Delivered room xs
done_into room xs e = record { is = go (ltb room (length xs)) e }
  where
    go : (b : Bool) → IsOk (cond b (refused ShortBuffer) (made xs)) → cond b (refused ShortBuffer) (made xs) ≡ made xs
    go true q = absurd (false≢true q)
    go false q = refl

done_written : (m : List ℕ) (room : ℕ) → IsOk (to_text m room) → (hello_form m ≡ true) × (to_text m room ≡ made (text_of (numbers_of m)))
unfolding to_text
done_written m room e = go (hello_form m) refl e
  where
    go : (b : Bool) → hello_form m ≡ b → IsOk (cond (not b) (refused HelloForm) (into room (text_of (numbers_of m))))
        → (b ≡ true) × (cond (not b) (refused HelloForm) (into room (text_of (numbers_of m))) ≡ made (text_of (numbers_of m)))
    go true h q = (refl, (done_into room (text_of (numbers_of m)) q).is)
    go false h q = absurd (false≢true q)

record Read (t : List ℕ) (room : ℕ) : Type 0 where
  formed : form t ≡ true
  fits : numbers_fit (numbers_in t) ≡ true
  is : from_text t room ≡ made (message_of (numbers_in t))

done_read : (t : List ℕ) (room : ℕ) → IsOk (from_text t room) → Read t room
unfolding from_text
done_read t room e = go (form t) refl (numbers_fit (numbers_in t)) refl e
  where
    go : (b : Bool) → form t ≡ b → (c : Bool) → numbers_fit (numbers_in t) ≡ c
        → IsOk (cond (not b) (refused TextForm) (cond (not c) (refused FieldRange) (into room (message_of (numbers_in t)))))
        → Read t room
    go true h true k q = record { formed = h; fits = k; is = rw (h, k) (done_into room (message_of (numbers_in t)) q).is }
    go true h false k q = absurd (false≢true q)
    go false h c k q = absurd (false≢true q)

-- ---- the theorems

pub message_back : MessageBack
unfolding MessageBack
message_back m room room₂ o e s h k =
    let t : to_text m room ≡ made (text_of (numbers_of m)) = writes m room e ∙ roomy room (text_of (numbers_of m)) h in
    ap (λ (x : Made). from_text (octets x) room₂) t
    ∙ reads_written m room₂ o e
    ∙ ap (into room₂) ((message_there m o e).same s)
    ∙ roomy room₂ m k

pub text_back_again : TextBack
unfolding TextBack
text_back_again t room room₂ e h =
    let r = done_read t room e in
    let s = numbers_in t in
    let a = all_fit s r.fits in
    ap (λ (x : Made). to_text (octets x) room₂) r.is
    ∙ writes (message_of s) room₂ (message_formed s a (text_counts t r.formed))
    ∙ ap (λ (x : Numbers). into room₂ (text_of x)) (numbers_there s a)
    ∙ ap (into room₂) (text_back t r.formed r.fits)
    ∙ roomy room₂ t h

pub never_refused : NeverRefused
unfolding NeverRefused
never_refused m room room₂ o e =
    let w = done_written m room e in
    let q : from_text (octets (to_text m room)) room₂ ≡ into room₂ (message_of (numbers_of m)) = ap (λ (x : Made). from_text (octets x) room₂) w.1 ∙ reads_written m room₂ o w.0 in
    ((λ t. other 14 (λ p. omega arith) (λ p. omega arith) (ap answer (sym q ∙ t))), (λ t. other 15 (λ p. omega arith) (λ p. omega arith) (ap answer (sym q ∙ t))))
  where
    other : (n : ℕ) → (0 ≡ n → ⊥) → (2 ≡ n → ⊥) → answer (into room₂ (message_of (numbers_of m))) ≡ n → ⊥
    other n f g p = go (ltb room₂ (length (message_of (numbers_of m)))) p
      where
        go : (b : Bool) → answer (cond b (refused ShortBuffer) (made (message_of (numbers_of m)))) ≡ n → ⊥
        go true q = g q
        go false q = f q
