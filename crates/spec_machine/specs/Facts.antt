-- Tasks, pairs of tasks, and what the report counts.
use Rattle.std.specs.Prelude.{ℕ, suc, ◌+◌, ◌-◌, ◌^◌, min, Bool, ◌&&◌, ◌==◌, List, [], ◌∷◌, ◌++◌, take}
use Rattle.nest_syntax.specs.Course.{Purpose, Ordinary, Header}

-- a task is the block of a worker in an epoch; epochs are counted from 0 in their segment
pub record Task : Type 0 where
  pub epoch : ℕ
  pub worker : ℕ

pub record Pair : Type 0 where
  pub early : Task
  pub late : Task

abbrev pub same_task : Task → Task → Bool
same_task t v = (t.epoch == v.epoch) && (t.worker == v.worker)

abbrev pub same_pair : Pair → Pair → Bool
same_pair p q = same_task p.early q.early && same_task p.late q.late

-- why a segment is given up: a task trapped, or the signatures of a pair overlap, first in this array
pub data Abort : Type 0 where
  Fails : Task → Abort
  Overlaps : Pair → ℕ → Abort

-- a rollback: the number of the segment, which is the number of commits before it, and its cause
pub record Rollback : Type 0 where
  pub segment : ℕ
  pub cause : Abort

-- The counts of headers carried out, of iterations that the cursor passed, of drains, of commits, of the checker's steps
-- and of restores; the first 64 rollbacks, in the order of the history.
pub record Facts : Type 0 where
  pub invocations : ℕ
  pub iterations : ℕ
  pub drains : ℕ
  pub segments : ℕ
  pub checks : ℕ
  pub rollbacks : ℕ
  pub listed : List Rollback

abbrev pub no_facts : Facts
no_facts = record { invocations = 0; iterations = 0; drains = 0; segments = 0; checks = 0; rollbacks = 0; listed = [] }

-- what each row adds; a computing event counts where it is carried out without a trap, a drain also where it traps
abbrev pub computed : Purpose → Facts → Facts
computed Ordinary facts = facts
computed Header facts = record facts { invocations = suc facts.invocations }

-- The greatest count of drains: it stays there. It is needed since nothing bounds the number of tests, and so of
-- drains.
abbrev pub most_drains : ℕ
most_drains = 2 ^ 64 - 1

abbrev pub drained : Facts → Facts
drained facts = record facts { drains = min (suc facts.drains) most_drains }

abbrev pub opened : ℕ → Facts → Facts
opened n facts = record facts { iterations = facts.iterations + n }

abbrev pub committed : Facts → Facts
committed facts = record facts { segments = suc facts.segments }

abbrev pub checked : Facts → Facts
checked facts = record facts { checks = suc facts.checks }

abbrev pub restored : Abort → Facts → Facts
restored cause facts = record facts { rollbacks = suc facts.rollbacks; listed = take 64 (facts.listed ++ record { segment = facts.segments; cause = cause } ∷ []) }
