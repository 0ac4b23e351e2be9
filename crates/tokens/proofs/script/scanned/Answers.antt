use Rattle.std.proofs.Common.{arith, ◌≡◌, ◌<◌, ℕ, List, [], ◌++◌, length, ap, subst, sym, ◌∙◌}
use Rattle.std.proofs.lemmas.List.{length-take}
use Rattle.std.proofs.lemmas.Bool.{eqb-false, eqb-true}
use Rattle.tokens.specs.Found.{step_of}
use Rattle.tokens.specs.Lexeme.{Lexeme, lexemes}
use Rattle.tokens.specs.Text.{Holds}
use Rattle.tokens.proofs.Whole.{tokens_sound, tokens_only, tokens_never, step_shorter, kept_sound, kept_only, end_sound, end_only}
use Rattle.tokens.proofs.script.scanned.Goals as goal

pub returns-then-text-gt-MAX_SCRIPT_LEN-clause-only : goal.returns-then-text-gt-MAX_SCRIPT_LEN-clause-only
returns-then-text-gt-MAX_SCRIPT_LEN-clause-only g c = λ ws h. absurd (omega (arith, h.0, c.if-text-gt-MAX_SCRIPT_LEN.true))

pub loop-rest-init : goal.loop-rest-init
loop-rest-init g c =
    let none : lexemes c.new-tokens.result.items ≡ [] = ap lexemes c.new-tokens.ensures.items in
    record {
      sound = λ ws h. subst (λ (vs : List Lexeme). Holds c.args.text.now (vs ++ ws)) (sym none) h;
      only = λ ws h. (ws, h, ap (λ (vs : List Lexeme). vs ++ ws) (sym none));
      few = omega (arith, c.if-text-gt-MAX_SCRIPT_LEN.false);
    }

pub overflow_cast-number : goal.overflow_cast-number
overflow_cast-number g c = omega (arith, c.steps.ensures, length-take {A = ℕ}, c.loop-rest.invariant.few)

pub overflow_add-number : goal.overflow_add-number
overflow_add-number g c = omega (arith, c.steps.ensures, length-take {A = ℕ}, c.loop-rest.invariant.few)

pub loop-rest-preserved : goal.loop-rest-preserved
loop-rest-preserved g c =
    let rest = c.loop-rest.rest.now in
    let part = step_of c.in-Ok.part in
    let old = lexemes c.loop-rest.tokens.items in
    let new = lexemes c.keep.new.tokens.items in
    let some : 0 < length rest = omega (arith, eqb-false _ _ (sym c.is_empty.ensures ∙ c.loop-rest-test.true)) in
    record {
      sound = kept_sound part.0 old new c.args.text.now rest part.1 c.in_ok-keep-in-Ok.ensures c.loop-rest.invariant.sound (tokens_sound rest part c.in-Ok.ensures);
      only = kept_only part.0 old new c.args.text.now rest part.1 c.in_ok-keep-in-Ok.ensures c.loop-rest.invariant.only (tokens_only rest part some c.in-Ok.ensures);
      few = omega (arith, c.steps.ensures, step_shorter rest part c.in-Ok.ensures, length-take {A = ℕ});
    }

pub slice_bounds-steps-count : goal.slice_bounds-steps-count
slice_bounds-steps-count g c = omega (arith, step_shorter c.loop-rest.rest.now (step_of c.in-Ok.part) c.in-Ok.ensures)

pub loop-rest-smaller : goal.loop-rest-smaller
loop-rest-smaller g c = step_shorter c.loop-rest.rest.now (step_of c.in-Ok.part) c.in-Ok.ensures

pub returns-in-Err-clause-only : goal.returns-in-Err-clause-only
returns-in-Err-clause-only g c = λ ws h.
    let a = c.loop-rest.invariant.only ws h.1 in
    let some : 0 < length c.loop-rest.rest.now = omega (arith, eqb-false _ _ (sym c.is_empty.ensures ∙ c.loop-rest-test.true)) in
    absurd (tokens_never c.loop-rest.rest.now a.0 some c.in-Err.ensures a.1)

pub returns-clause-found : goal.returns-clause-found
returns-clause-found g c = (c.if-text-gt-MAX_SCRIPT_LEN.false, end_sound (lexemes c.loop-rest.tokens.items) c.args.text.now c.loop-rest.rest.now (eqb-true _ _ (sym c.is_empty.ensures ∙ c.loop-rest-test.false)) c.loop-rest.invariant.sound)

pub returns-clause-only : goal.returns-clause-only
returns-clause-only g c = λ ws h. end_only (lexemes c.loop-rest.tokens.items) c.args.text.now c.loop-rest.rest.now (eqb-true _ _ (sym c.is_empty.ensures ∙ c.loop-rest-test.false)) c.loop-rest.invariant.only ws h.1
