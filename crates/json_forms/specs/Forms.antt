-- What a JSON value may be, what it tells, and the first path in it at fault.
use Rattle.std.specs.Prelude.{◌≡◌, ◌⊎◌, ℕ, List, [], ◌∷◌, ◌++◌, length, decimal, Option, Some, None, Result, Ok, Err}
use Rattle.serde_json.specs.Data.{Data, Items, no_items, item}
use Rattle.serde_json.specs.Find.{get, as_str, as_array, as_object}
use Rattle.text_grammar.specs.declared.faults.Fault.{Fault as TextFault}
use Rattle.text_grammar.specs.Words.{AreWords}
use Rattle.text_grammar.specs.Shapes.{Place, Is as IsWord, At as FailsWord, Shape, Spells, Fails as FailsLine}
use Rattle.json_forms.specs.declared.faults.Fault.{Fault}
use Rattle.json_forms.specs.declared.faults.FaultAt.{FaultAt}
use Rattle.json_forms.specs.Rules.{here, below, wrong_type, missing, of_text}

-- what a value may be, with what it tells
pub data Form : Type 0 → Type 1 where
  -- a value that a table tells, or the fault that it does not
  Known : {A : Type 0} → (Data → Result A Fault) → Form A
  -- a text that is a word of this place
  Word : {A : Type 0} → Place A → Form A
  -- a text whose words are of this shape
  Line : {A : Type 0} → Shape A → Form A
  -- a value of a form, judged by what it tells
  Judged : {A B : Type 0} → Form A → (A → Result B Fault) → Form B
  -- a list, each item by what those before it tell
  Each : {A : Type 0} → (List A → Form A) → Form (List A)
  -- an object, of a form
  Object : {A : Type 0} → Form A → Form A
  -- the member of this name, of this form
  Member : {A : Type 0} → List ℕ → Form A → Form A
  -- the same, where the member may be left out, and then tells this
  MemberOr : {A : Type 0} → List ℕ → A → Form A → Form A
  -- a value of a form, and by what it tells of another too
  Then : {A B : Type 0} → Form B → (B → Form A) → Form A
  -- anything, which tells this
  Done : {A : Type 0} → A → Form A
  -- nothing, and this is the fault
  Never : {A : Type 0} → Fault → Form A

-- one of two facts, by whether something is there
abbrev pub Found : {A : Type 0} → Option A → (A → Type 0) → Type 0 → Type 0
Found (Some a) there not = there a
Found None there not = not

-- ---- lists

-- each of the items is as wanted behind those before it, which told this
abbrev pub AreEach : {A : Type 0} → (List A → Data → A → Type 0) → List A → Items → List A → Type 0
AreEach IsNext earlier no_items all = all ≡ earlier
AreEach {A} IsNext earlier (item d ds) all =
    (a : A) × IsNext earlier d a × AreEach IsNext (earlier ++ a ∷ []) ds all

-- the fault lies one name or place further
abbrev pub Below : List ℕ → (FaultAt → Type 0) → FaultAt → Type 0
Below name IsAt at = (inner : FaultAt) × IsAt inner × (at ≡ below name inner)

-- one of the items is at fault, and those before it are not
abbrev pub AtEach : {A : Type 0} → (List A → Data → A → Type 0) → (List A → Data → FaultAt → Type 0) → List A →
    Items → FaultAt → Type 0
AtEach IsNext FailsNext earlier no_items at = ⊥
AtEach {A} IsNext FailsNext earlier (item d ds) at =
    Below (decimal (length earlier)) (FailsNext earlier d) at
    ⊎ ((a : A) × IsNext earlier d a × AtEach IsNext FailsNext (earlier ++ a ∷ []) ds at)

-- ---- forms

-- the value is of the form, and tells this
abbrev pub Is : {A : Type 0} → Form A → Data → A → Type 0
Is (Known table) d a = table d ≡ Ok a
Is (Word place) d a = Found (as_str d) (λ text. IsWord place text a) ⊥
Is (Line shape) d a =
    Found (as_str d) (λ text. (words : List (List ℕ)) × AreWords text words × Spells shape words a) ⊥
Is (Judged {A = A} form judge) d b = (a : A) × Is form d a × (judge a ≡ Ok b)
Is (Each form) d all = Found (as_array d) (λ ds. AreEach (λ earlier e a. Is (form earlier) e a) [] ds all) ⊥
Is (Object form) d a = Found (as_object d) (λ _. Is form d a) ⊥
Is (Member name form) d a = Found (get name d) (λ e. Is form e a) ⊥
Is (MemberOr name other form) d a = Found (get name d) (λ e. Is form e a) (a ≡ other)
Is (Then {B = B} form more) d a = (b : B) × Is form d b × Is (more b) d a
Is (Done x) d a = a ≡ x
Is (Never fault) d a = ⊥

-- the value is at fault, first there and so
abbrev pub Fails : {A : Type 0} → Form A → Data → FaultAt → Type 0
Fails (Known table) d at = (fault : Fault) × (table d ≡ Err fault) × (at ≡ here fault)
Fails (Word place) d at =
    Found (as_str d) (λ text. (r : TextFault) × FailsWord place text r × (at ≡ here (of_text r))) (at ≡ wrong_type)
Fails (Line shape) d at =
    Found (as_str d)
    (λ text. (words : List (List ℕ)) × (r : TextFault) × AreWords text words × FailsLine shape words r
    × (at ≡ here (of_text r)))
    (at ≡ wrong_type)
Fails (Judged {A = A} form judge) d at =
    Fails form d at ⊎ ((a : A) × (fault : Fault) × Is form d a × (judge a ≡ Err fault) × (at ≡ here fault))
Fails (Each form) d at =
    Found (as_array d)
    (λ ds. AtEach (λ earlier e a. Is (form earlier) e a) (λ earlier e x. Fails (form earlier) e x) [] ds at)
    (at ≡ wrong_type)
Fails (Object form) d at = Found (as_object d) (λ _. Fails form d at) (at ≡ wrong_type)
Fails (Member name form) d at = Found (get name d) (λ e. Below name (Fails form e) at) (at ≡ missing name)
Fails (MemberOr name other form) d at = Found (get name d) (λ e. Below name (Fails form e) at) ⊥
Fails (Then {B = B} form more) d at = Fails form d at ⊎ ((b : B) × Is form d b × Fails (more b) d at)
Fails (Done x) d at = ⊥
Fails (Never fault) d at = at ≡ here fault
