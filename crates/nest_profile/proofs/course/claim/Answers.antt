use Rattle.std.proofs.Common.{◌≡◌, ℕ, false, subst}
use Rattle.nest_syntax.specs.declared.tree.Program.{Program}
use Rattle.nest_syntax.specs.Among.{is_among}
use Rattle.nest_syntax.specs.Locals.{locals_of}
use Rattle.nest_syntax.specs.Shape.{bodies_of}
use Rattle.nest_syntax.specs.Outcome.{body_at}
use Rattle.nest_syntax.specs.Value.{scalar_at}
use Rattle.word_store.specs.Memory.{Memory}
use Rattle.nest_profile.proofs.Claimed.{Finds, claims_found}
use Rattle.nest_profile.proofs.Courses.{given_by, given_kept}
use Rattle.nest_profile.proofs.course.claim.Goals as goal

pub returns-clause-claims : goal.returns-clause-claims
returns-clause-claims c =
    let job = c.args.job.now in
    claims_found job.program job.opening.words c.args.cursor.now c.args.scalars.now c.put_scalars.new.into c.args.body c.claims.new.into c.requires.cursor c.requires.iterates c.requires.names c.requires.body c.put_scalars.ensures.given
    (subst (λ (p : Program). Finds p job.opening.words c.args.body c.put_scalars.new.into c.claims.new.into) c.checked.ensures.same
    (subst (λ (w : Memory). Finds c.checked.result.now w.words c.args.body c.put_scalars.new.into c.claims.new.into) c.words.ensures.same c.claims.ensures.claims))

pub returns-clause-given : goal.returns-clause-given
returns-clause-given c =
    let program = c.args.job.now.program in
    given_kept program c.args.cursor.now c.put_scalars.new.into c.claims.new.scalars c.args.body c.requires.iterates c.requires.body
    (given_by program c.args.cursor.now c.args.scalars.now c.put_scalars.new.into c.requires.iterates c.requires.scalars c.put_scalars.ensures.given c.put_scalars.ensures.names)
    c.claims.ensures.names
    (subst (λ (p : Program). (name : ℕ) → is_among (locals_of (body_at (bodies_of p) c.args.body)) name ≡ false → scalar_at c.claims.new.scalars name ≡ scalar_at c.put_scalars.new.into name) c.checked.ensures.same c.claims.ensures.others)
