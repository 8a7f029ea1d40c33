-- A machine of one of the engines, and what a run of it is. What is said here is said of each engine apart.
use Rattle.std.specs.Prelude.{◌≡◌, ◌⊎◌, ℕ, List}
use Rattle.nest_mean.specs.Nest.{Nest, CanRun}
use Rattle.nest_mean.specs.Outcomes.{outcome}
use Rattle.nest_mean.specs.declared.outcomes.Outcome.{Outcome}
use Rattle.progress_board.specs.declared.options.Options.{Options}
use Rattle.progress_board.specs.declared.options.Engine.{Engine}
use Rattle.progress_board.specs.declared.options.Engine.TheVariants as engine
use Rattle.progress_board.specs.declared.options.Sign.TheVariants as sign
use Rattle.progress_board.specs.declared.facts.Facts.{Facts}
use Rattle.progress_board.specs.Options.{IsInRange}
use Rattle.progress_board.specs.Actors.{actors_of}
use Rattle.progress_board.specs.Rotation.{taken, rotation}
use Rattle.lone_crew.specs.declared.refused.StepRefused.{StepRefused}
use Rattle.domore_core.specs.Engine as domore
use Rattle.spec_setup.specs.Signs.{exact_signs, range_signs}
use Rattle.spec_core.specs.Engine as spec
use Rattle.spec_core.specs.Laws as laws
use Rattle.nest_runtime.specs.declared.opened.Opened.{Opened}
use Rattle.nest_runtime.specs.declared.opened.Opened.TheVariants.{Domore, Exact, Range}
use Rattle.nest_runtime.specs.Ran.{IsRun, IsRefusedRun}

-- the engines that pass barriers speculatively; with `barrier` no worker is ahead
abbrev pub IsSpeculative : Engine → Type 0
IsSpeculative kind = (kind ≡ engine.Speccross) ⊎ (kind ≡ engine.Barrier)

-- A machine is opened on the job and the options, of the engine and with the kind of signature that these name.
abbrev pub IsOpenedOn : Nest → Options → Opened → Type 0
IsOpenedOn job options (Domore machine) = (options.engine ≡ engine.Domore) × domore.Opens job options machine
IsOpenedOn job options (Exact machine) = IsSpeculative options.engine × (options.sign ≡ sign.Exact) × spec.Opens exact_signs job options machine
IsOpenedOn job options (Range machine) = IsSpeculative options.engine × (options.sign ≡ sign.Range) × spec.Opens range_signs job options machine

-- a run from a machine comes to this outcome, with these facts, by these steps
abbrev pub IsRunFrom : Opened → Outcome → Facts → List ℕ → Type 0
IsRunFrom (Domore machine) o facts history = IsRun domore.step domore.is_finished domore.ending_of domore.words_of domore.facts_of machine o facts history
IsRunFrom (Exact machine) o facts history = IsRun (spec.step exact_signs) spec.is_finished spec.ending_of spec.words_of spec.facts_of machine o facts history
IsRunFrom (Range machine) o facts history = IsRun (spec.step range_signs) spec.is_finished spec.ending_of spec.words_of spec.facts_of machine o facts history

-- the steps are those of the rotation, behind those entries of a schedule that are enabled
abbrev pub IsRotationOf : Opened → (schedule history : List ℕ) → Type 0
IsRotationOf (Domore machine) schedule history = history ≡ rotation domore.step domore.measure machine (actors_of machine.options) schedule
IsRotationOf (Exact machine) schedule history = history ≡ rotation (spec.step exact_signs) (laws.measure exact_signs) machine (actors_of machine.options) schedule
IsRotationOf (Range machine) schedule history = history ≡ rotation (spec.step range_signs) (laws.measure range_signs) machine (actors_of machine.options) schedule

-- each entry of a schedule is enabled in its turn
abbrev pub AreEnabled : Opened → List ℕ → Type 0
AreEnabled (Domore machine) schedule = taken domore.step machine schedule ≡ schedule
AreEnabled (Exact machine) schedule = taken (spec.step exact_signs) machine schedule ≡ schedule
AreEnabled (Range machine) schedule = taken (spec.step range_signs) machine schedule ≡ schedule

-- given steps are refused so
abbrev pub AreRefusedBy : Opened → List ℕ → StepRefused → Type 0
AreRefusedBy (Domore machine) steps refused = IsRefusedRun domore.step machine steps refused
AreRefusedBy (Exact machine) steps refused = IsRefusedRun (spec.step exact_signs) machine steps refused
AreRefusedBy (Range machine) steps refused = IsRefusedRun (spec.step range_signs) machine steps refused

-- Each run of a machine that was opened on a job comes to the outcome of textual order.
abbrev pub RunsEndAsJob : Type 0
RunsEndAsJob = (job : Nest) (options : Options) → CanRun job → IsInRange options → (machine : Opened) → IsOpenedOn job options machine → (o : Outcome) (facts : Facts) (history : List ℕ) → IsRunFrom machine o facts history → o ≡ outcome job
