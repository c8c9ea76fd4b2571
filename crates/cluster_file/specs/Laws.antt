-- What is so of all bytes.
use Rattle.std.specs.Prelude.{◌≡◌, ◌⊎◌, ℕ, List}
use Rattle.serde_json.specs.Data.{Data}
use Rattle.cluster_history.specs.declared.data.Opening.{Opening}
use Rattle.cluster_history.specs.Openings.{IsValidOpening}
use Rattle.run_plan.specs.declared.plan.RunPlan.{RunPlan}
use Rattle.json_forms.specs.declared.faults.FaultAt.{FaultAt}
use Rattle.run_plan.specs.Fits.{IsPlanFor}
use Rattle.cluster_file.specs.Documents.{IsJson, IsDocument, IsFirstFault}

-- bytes that are a document say one opening and one plan
abbrev pub SaysOne : Type 0
SaysOne =
    (bytes : List ℕ) (one : Opening × RunPlan) (other : Opening × RunPlan) → IsDocument bytes one.0 one.1 →
    IsDocument bytes other.0 other.1 → one ≡ other

-- JSON is a document or has a first fault
abbrev pub SaysOrFails : Type 0
SaysOrFails =
    (bytes : List ℕ) (d : Data) → IsJson bytes d →
    ((opening : Opening) × (plan : RunPlan) × IsDocument bytes opening plan) ⊎ ((at : FaultAt) × IsFirstFault bytes at)

-- and never both
abbrev pub NeverBoth : Type 0
NeverBoth =
    (bytes : List ℕ) (opening : Opening) (plan : RunPlan) (at : FaultAt) → IsDocument bytes opening plan →
    IsFirstFault bytes at → ⊥

-- one fault is the first
abbrev pub FailsOnce : Type 0
FailsOnce = (bytes : List ℕ) (at : FaultAt) (at' : FaultAt) → IsFirstFault bytes at → IsFirstFault bytes at' → at ≡ at'

-- the plan that a document says fits its opening
abbrev pub PlansFit : Type 0
PlansFit =
    (bytes : List ℕ) (opening : Opening) (plan : RunPlan) → IsDocument bytes opening plan → IsPlanFor opening plan

-- the opening that a document says is valid
abbrev pub OpensValidly : Type 0
OpensValidly =
    (bytes : List ℕ) (opening : Opening) (plan : RunPlan) → IsDocument bytes opening plan → IsValidOpening opening
