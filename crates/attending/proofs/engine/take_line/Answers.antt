use Rattle.std.proofs.Common.{rules, ◌≡◌, ℕ, List, ◌++◌, length, sym, ◌∙◌, ap, subst, None}
use Rattle.std.proofs.lemmas.List.{nil_from_length}
use Rattle.attending.specs.Preparing.{Prepares, standing}
use Rattle.attending.proofs.engine.take_line.Goals as goal

pub returns-clause-prepares : goal.returns-clause-prepares
returns-clause-prepares g c =
    let a = c.args.attendant.now in
    let b = c.prepare-quit.new.self in
    subst (λ (line : List ℕ). Prepares a.manner a.alone.session.spec (standing a.alone.session.history a.alone.session.failed a.tally a.lines a.whole None) line
    (standing b.alone.session.history b.alone.session.failed b.tally b.lines b.whole None) b.reply.items b.said.items)
    (c.deref.ensures.value ∙ c.add.ensures.items) c.prepare-quit.ensures.prepares

pub returns-clause-quit : goal.returns-clause-quit
returns-clause-quit g c is = let q = c.prepare-quit.ensures.quit is in (sym (c.deref.ensures.value ∙ c.add.ensures.items) ∙ q.0, q.1)

pub returns-clause-other : goal.returns-clause-other
returns-clause-other g c is same = c.prepare-quit.ensures.other is (c.deref.ensures.value ∙ c.add.ensures.items ∙ same)

pub returns-then-is_empty-clause-prepares : goal.returns-then-is_empty-clause-prepares
returns-then-is_empty-clause-prepares g c =
    let a = c.args.attendant.now in
    let b = c.prepare.new.self in
    let begun = c.args.begun.now.items in
    let short : length begun ≡ 0 = search rules in
    subst (λ (line : List ℕ). Prepares a.manner a.alone.session.spec (standing a.alone.session.history a.alone.session.failed a.tally a.lines a.whole None) line
    (standing b.alone.session.history b.alone.session.failed b.tally b.lines b.whole None) b.reply.items b.said.items)
    (sym (ap (λ (l : List ℕ). l ++ c.args.piece.now) (nil_from_length begun short))) c.prepare.ensures.prepares

pub returns-then-is_empty-clause-quit : goal.returns-then-is_empty-clause-quit
returns-then-is_empty-clause-quit g c is =
    let short : length c.args.begun.now.items ≡ 0 = search rules in
    let q = c.prepare.ensures.quit is in
    (ap (λ (l : List ℕ). l ++ c.args.piece.now) (nil_from_length c.args.begun.now.items short) ∙ q.0, q.1)

pub returns-then-is_empty-clause-other : goal.returns-then-is_empty-clause-other
returns-then-is_empty-clause-other g c is same =
    let short : length c.args.begun.now.items ≡ 0 = search rules in
    c.prepare.ensures.other is (sym (ap (λ (l : List ℕ). l ++ c.args.piece.now) (nil_from_length c.args.begun.now.items short)) ∙ same)
