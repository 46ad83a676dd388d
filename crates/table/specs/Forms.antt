-- UPDATE-a: forms that the rules use: lines that may end an update, a test of every element, numbered elements.
use Rattle.std.specs.Prelude.{Bool, true, ◌&&◌, List, [], ◌∷◌, ℕ, zero, suc}
use Rattle.std.specs.declared.ops.ControlFlow.{ControlFlow}
use Rattle.std.specs.declared.ops.ControlFlow.TheVariants.{Continue, Break}

-- UPDATE-a: a line continues with a value, or ends with it
pub data Stage (A : Type 0) : Type 0 where
  on : A → Stage A
  end : A → Stage A

-- UPDATE-a: the next line, if the first one continues
infixl 60 ◌then◌
abbrev pub ◌then◌ : {A : Type 0} → Stage A → (A → Stage A) → Stage A
on a then next = next a
end a then next = end a

-- UPDATE-a: how a line or a step comes out, as the code has it
abbrev pub flow_of : {A : Type 0} → Stage A → ControlFlow A A
flow_of (on a) = Continue a
flow_of (end a) = Break a

-- HOST-6: does every element pass a test?
abbrev pub every : {A : Type 0} → (A → Bool) → List A → Bool
every test [] = true
every test (a ∷ rest) = test a && every test rest

-- MARK-2: n numbers from the first on
abbrev pub up_from : (first count : ℕ) → List ℕ
up_from first zero = []
up_from first (suc n) = first ∷ up_from (suc first) n

-- MARK-3: does every element pass a test of its number and value?
abbrev pub every_from : {A : Type 0} → (i : ℕ) → (ℕ → A → Bool) → List A → Bool
every_from i test [] = true
every_from i test (a ∷ rest) = test i a && every_from (suc i) test rest

-- TABLE-8: every element changed by its number and value
abbrev pub map_from : {A B : Type 0} → (i : ℕ) → (ℕ → A → B) → List A → List B
map_from i f [] = []
map_from i f (a ∷ rest) = f i a ∷ map_from (suc i) f rest
