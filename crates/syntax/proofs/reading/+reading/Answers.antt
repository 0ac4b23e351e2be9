use Rattle.std.proofs.Common.{arith, rules, take, drop, ◌≡◌, ◌≤◌, ◌+◌, ◌-◌, ℕ, List, Bool, Option, length, ap, sym, ◌∙◌}
use Rattle.std.proofs.lemmas.List.{length-map}
use Rattle.std.proofs.lemmas.Result.{err_from_is_err_and}
use Rattle.tokens.specs.Lexeme.{Lexeme, lexeme, lexemes}
use Rattle.syntax.specs.declared.piece.Piece.{Piece}
use Rattle.syntax.specs.declared.piece.Sign.TheVariants as signs
use Rattle.syntax.specs.Grammar.{Syntax}
use Rattle.syntax.specs.Parsing.{◌>>=◌, reader, may_open, after, climb, name_at, others, row, step, Found, Row}
use Rattle.syntax.specs.View.{shape, shapes}
use Rattle.syntax.proofs.Branches.{gives_as, kept, inside_fails, inside_reads, others_stop, others_done, others_more, others_fail, node_is, node_fails, grown_is, grown_fails, climb_ends, climb_turn, climb_stuck}
use Rattle.syntax.proofs.Failing.{fails_none, fails_on}
use Rattle.syntax.proofs.ReadSteps.{back_short, behind_short, front_short, read_climbs, read_ends, read_fails, row_ends, row_turn}
use Rattle.syntax.proofs.Steps.{one_higher, reads_no_layer, reads_no_room}
use Rattle.syntax.proofs.reading.+reading.Goals as goal

pub climb-returns-then-turns-eq0-clause-read : goal.climb-returns-then-turns-eq0-clause-read
climb-returns-then-turns-eq0-clause-read g t c =
    fails_none c.too_deep.result _
    (climb_stuck (reader c.args.limits.brackets (c.args.limits.room - 1) 4) (may_open c.args.limits.brackets) c.args.limits.room c.args.limit c.args.turns c.args.left.height (shape c.args.left.tree) (lexemes c.args.tokens.now) c.in-Some.operator (lexemes c.in-Some.rest.now) c.may_begin-may.result c.args.left.is_height c.in-Some.ensures c.may_begin-may.ensures c.then-turns-eq0.either)

pub climb-returns-in_err-grown-in-Some-clause-read : goal.climb-returns-in_err-grown-in-Some-clause-read
climb-returns-in_err-grown-in-Some-clause-read g t c =
    let read = reader c.args.limits.brackets (c.args.limits.room - 1) 4 in
    let p = err_from_is_err_and c.from_residual.result c.from_residual.ensures.1 in
    rw (p.1, p.2)
    (fails_on c.in_err-grown-in-Some.field-0.0 _ _
    (λ e. climb_turn read (may_open c.args.limits.brackets) c.args.limits.room c.args.limit c.args.turns c.args.left.height (shape c.args.left.tree) (lexemes c.args.tokens.now) c.in-Some.operator (lexemes c.in-Some.rest.now) c.args.left.is_height c.in-Some.ensures c.if-turns-eq0.false c.if-left-limits.false (sym c.if-not-may.false ∙ c.may_begin-may.ensures)
    ∙ ap (λ (o : Option Found). o >>= λ y. climb read (may_open c.args.limits.brackets) c.args.limits.room c.args.limit (c.args.turns - 1) y.0 y.1) e)
    c.in_err-grown-in-Some.ensures.read)

pub climb-returns-in-None-clause-read : goal.climb-returns-in-None-clause-read
climb-returns-in-None-clause-read g t c =
    climb_ends (reader c.args.limits.brackets (c.args.limits.room - 1) 4) (may_open c.args.limits.brackets) c.args.limits.room c.args.limit c.args.turns (shape c.args.left.tree) (lexemes c.args.tokens.now) c.in-None.ensures

pub climb-returns-in_ok-grown-in-Some-clause-read : goal.climb-returns-in_ok-grown-in-Some-clause-read
climb-returns-in_ok-grown-in-Some-clause-read g t c =
    let read = reader c.args.limits.brackets (c.args.limits.room - 1) 4 in
    gives_as _ c.climb.result _ _
    (climb_turn read (may_open c.args.limits.brackets) c.args.limits.room c.args.limit c.args.turns c.args.left.height (shape c.args.left.tree) (lexemes c.args.tokens.now) c.in-Some.operator (lexemes c.in-Some.rest.now) c.args.left.is_height c.in-Some.ensures c.if-turns-eq0.false c.if-left-limits.false (sym c.if-not-may.false ∙ c.may_begin-may.ensures)
    ∙ ap (λ (o : Option Found). o >>= λ y. climb read (may_open c.args.limits.brackets) c.args.limits.room c.args.limit (c.args.turns - 1) y.0 y.1) c.in_ok-grown-in-Some.ensures.read)
    c.climb.ensures.read

pub grown-returns-in_err-parts-2-clause-read : goal.grown-returns-in_err-parts-2-clause-read
grown-returns-in_err-parts-2-clause-read g t c =
    let p = err_from_is_err_and c.from_residual-in_err-parts-2.result c.from_residual-in_err-parts-2.ensures.1 in
    rw (p.1, p.2)
    (grown_fails c.in_err-parts-2.field-0.0 (reader c.args.limits.brackets (c.args.limits.room - 1) 4) (may_open c.args.limits.brackets) c.args.operator (shape c.args.left.tree) (lexemes c.args.tokens.now) c.behind.result.now (shapes c.in_ok-parts.parts.trees.items) c.behind.ensures c.in_ok-parts.ensures.0 c.in_err-parts-2.ensures.read)

pub grown-returns-clause-read : goal.grown-returns-clause-read
grown-returns-clause-read g t c =
    grown_is (reader c.args.limits.brackets (c.args.limits.room - 1) 4) (may_open c.args.limits.brackets) c.args.operator (shape c.args.left.tree) (shape c.node.result.tree) (lexemes c.args.tokens.now) (lexemes c.in_ok-parts-2.rest.now) c.behind.result.now (shapes c.in_ok-parts.parts.trees.items) (shapes c.in_ok-parts-2.parts.trees.items) c.behind.ensures c.in_ok-parts.ensures.0 c.in_ok-parts-2.ensures.read c.node.ensures.shape

pub grown-returns-clause-high : goal.grown-returns-clause-high
grown-returns-clause-high g t c =
    one_higher _ c.node.result.height c.in_ok-parts-2.parts.height c.args.limits.room c.node.ensures.height c.in_ok-parts-2.ensures.high (omega (arith, c.requires))

pub node-returns-in_err-parts-2-clause-read : goal.node-returns-in_err-parts-2-clause-read
node-returns-in_err-parts-2-clause-read g t c =
    let p = err_from_is_err_and c.from_residual-in_err-parts-2.result c.from_residual-in_err-parts-2.ensures.1 in
    rw (p.1, p.2)
    (node_fails c.in_err-parts-2.field-0.0 (reader c.args.limits.brackets c.args.limits.room c.args.limits.layers) (may_open c.args.limits.brackets) c.args.fields c.args.form c.turned-form.result (lexemes c.args.tokens.now) (lexemes c.in_ok-parts.rest.now) c.front.result.now c.back.result.now (shapes c.in_ok-none.none.trees.items) (shapes c.in_ok-parts.parts.trees.items) c.front.ensures c.in_ok-none.ensures.0 c.in_ok-parts.ensures.read c.turned-form.ensures c.back.ensures c.in_err-parts-2.ensures.read)

pub node-returns-clause-read : goal.node-returns-clause-read
node-returns-clause-read g t c =
    node_is (reader c.args.limits.brackets c.args.limits.room c.args.limits.layers) (may_open c.args.limits.brackets) c.args.fields c.args.form c.turned-form.result (lexemes c.args.tokens.now) (lexemes c.in_ok-parts.rest.now) (lexemes c.in_ok-parts-2.rest.now) c.front.result.now c.back.result.now (shapes c.in_ok-none.none.trees.items) (shapes c.in_ok-parts.parts.trees.items) (shapes c.in_ok-parts-2.parts.trees.items) (shape c.node.result.tree) c.front.ensures c.in_ok-none.ensures.0 c.in_ok-parts.ensures.read c.turned-form.ensures c.back.ensures c.in_ok-parts-2.ensures.read c.node.ensures.shape

pub others-returns-in-None-clause-read : goal.others-returns-in-None-clause-read
others-returns-in-None-clause-read g t c =
    let L = length c.args.tokens.now in
    let item = reader c.args.limits.brackets c.args.limits.room c.args.limits.layers c.args.place c.args.kind in
    ap (λ (k : ℕ). others item c.args.start k (shapes c.args.front.trees.items) (lexemes c.args.tokens.now)) (length-map c.args.tokens.now lexeme)
    ∙ sym c.loop.invariant.read
    ∙ others_stop item c.args.start (L - c.loop.counter) (shapes c.loop.parts.trees.items) (lexemes c.loop.rest.now) c.loop.parts.greedy c.loop.parts.is_greedy c.in-None.ensures

pub others-returns-in_err-more-in-Some-clause-read : goal.others-returns-in_err-more-in-Some-clause-read
others-returns-in_err-more-in-Some-clause-read g t c =
    let L = length c.args.tokens.now in
    let item = reader c.args.limits.brackets c.args.limits.room c.args.limits.layers c.args.place c.args.kind in
    let p = err_from_is_err_and c.from_residual.result c.from_residual.ensures.1 in
    rw (p.1, p.2)
    (fails_on c.in_err-more-in-Some.field-0.0 _ _
    (λ e. ap (λ (k : ℕ). others item c.args.start k (shapes c.args.front.trees.items) (lexemes c.args.tokens.now)) (length-map c.args.tokens.now lexeme)
    ∙ sym c.loop.invariant.read
    ∙ others_fail item c.args.start (L - c.loop.counter) (shapes c.loop.parts.trees.items) (lexemes c.loop.rest.now) (lexemes c.in-Some.begin.now) c.loop.parts.greedy (omega (arith, c.loop-test.true)) c.loop.parts.is_greedy c.in-Some.ensures e)
    (c.in_err-more-in-Some.ensures.read (item (lexemes c.in-Some.begin.now)) c.part.ensures.read))

pub others-returns-clause-read : goal.others-returns-clause-read
others-returns-clause-read g t c =
    let L = length c.args.tokens.now in
    let item = reader c.args.limits.brackets c.args.limits.room c.args.limits.layers c.args.place c.args.kind in
    ap (λ (k : ℕ). others item c.args.start k (shapes c.args.front.trees.items) (lexemes c.args.tokens.now)) (length-map c.args.tokens.now lexeme)
    ∙ sym c.loop.invariant.read
    ∙ others_done item c.args.start (L - c.loop.counter) (shapes c.loop.parts.trees.items) (lexemes c.loop.rest.now) (omega (arith, c.loop-test.false))

pub part-returns-then-limits-eq0-clause-read : goal.part-returns-then-limits-eq0-clause-read
part-returns-then-limits-eq0-clause-read g t c =
    fails_none c.too_deep.result _
    (inside_fails c.args.limits.brackets c.args.limits.room c.args.limits.layers c.args.place c.args.kind (lexemes c.args.tokens.now) c.in-Inside.is c.if-limits-eq0.true)

pub part-returns-else-limits-eq0-clause-read : goal.part-returns-else-limits-eq0-clause-read
part-returns-else-limits-eq0-clause-read g t c =
    gives_as _ c.read-in-Inside.result _ _
    (inside_reads c.args.limits.brackets c.args.limits.room c.args.limits.layers c.args.place c.args.kind (lexemes c.args.tokens.now) c.in-Inside.is c.if-limits-eq0.false)
    c.read-in-Inside.ensures.read

pub others-loop-preserved : goal.others-loop-preserved
others-loop-preserved g t c =
    let L = length c.args.tokens.now in
    let item = reader c.args.limits.brackets c.args.limits.room c.args.limits.layers c.args.place c.args.kind in
    record {
      read = others_more item c.args.start (L - c.loop.counter) (L - (c.loop.counter + 1)) (shapes c.loop.parts.trees.items) (shapes c.in_ok-more-in-Some.more.trees.items) (lexemes c.loop.rest.now) (lexemes c.in-Some.begin.now) (lexemes c.in_ok-more-in-Some.behind.now) c.loop.parts.greedy (omega (arith, c.loop-test.true)) (omega arith) c.loop.parts.is_greedy c.in-Some.ensures (c.in_ok-more-in-Some.ensures.read (item (lexemes c.in-Some.begin.now)) c.part.ensures.read) ∙ c.loop.invariant.read;
      high = c.in_ok-more-in-Some.ensures.high c.args.limits.room c.loop.invariant.high c.part.ensures.high;
    }

pub row-returns-in-empty-clause-read : goal.row-returns-in-empty-clause-read
row-returns-in-empty-clause-read g t c =
    row_ends (reader c.args.limits.brackets c.args.limits.room c.args.limits.layers) (may_open c.args.limits.brackets) c.args.pieces.now (shapes c.args.parts.trees.items) (lexemes c.args.tokens.now) c.in-empty.len_below

pub row-returns-in_err-parts-in-len1-up-clause-read : goal.row-returns-in_err-parts-in-len1-up-clause-read
row-returns-in_err-parts-in-len1-up-clause-read g t c =
    let p = err_from_is_err_and c.from_residual.result c.from_residual.ensures.1 in
    rw (p.1, p.2)
    (fails_on c.in_err-parts-in-len1-up.field-0.0 _ _
    (λ e. row_turn (reader c.args.limits.brackets c.args.limits.room c.args.limits.layers) (may_open c.args.limits.brackets) c.args.pieces.now _ (shapes c.args.parts.trees.items) (lexemes c.args.tokens.now) c.in-len1-up.len_at_least ∙ ap (λ (o : Option Row). o >>= λ y. row (reader c.args.limits.brackets c.args.limits.room c.args.limits.layers) (may_open c.args.limits.brackets) (take (length c.args.pieces.now - 1) (drop 1 c.args.pieces.now)) y.0 y.1) e)
    c.in_err-parts-in-len1-up.ensures.read)

pub row-returns-in_ok-parts-in-len1-up-clause-read : goal.row-returns-in_ok-parts-in-len1-up-clause-read
row-returns-in_ok-parts-in-len1-up-clause-read g t c =
    gives_as _ c.row.result _ _
    (row_turn (reader c.args.limits.brackets c.args.limits.room c.args.limits.layers) (may_open c.args.limits.brackets) c.args.pieces.now _ (shapes c.args.parts.trees.items) (lexemes c.args.tokens.now) c.in-len1-up.len_at_least
    ∙ ap (λ (o : Option Row). o >>= λ y. row (reader c.args.limits.brackets c.args.limits.room c.args.limits.layers) (may_open c.args.limits.brackets) (take (length c.args.pieces.now - 1) (drop 1 c.args.pieces.now)) y.0 y.1) c.in_ok-parts-in-len1-up.ensures.read)
    c.row.ensures.read

pub read-returns-then-not-may_begin_with-clause-read : goal.read-returns-then-not-may_begin_with-clause-read
read-returns-then-not-may_begin_with-clause-read g t c =
    rw c.expected.ensures (reads_no_room c.args.limits.brackets c.args.limits.room c.args.limits.layers c.args.kind (lexemes c.args.tokens.now) c.if-limits-eq0.true)

pub read-returns-then-limits-eq0-clause-read : goal.read-returns-then-limits-eq0-clause-read
read-returns-then-limits-eq0-clause-read g t c =
    fails_none c.too_deep.result _ (reads_no_room c.args.limits.brackets c.args.limits.room c.args.limits.layers c.args.kind (lexemes c.args.tokens.now) c.if-limits-eq0.true)

pub read-returns-then-limits-eq0-2-clause-read : goal.read-returns-then-limits-eq0-2-clause-read
read-returns-then-limits-eq0-2-clause-read g t c =
    fails_none c.too_deep-then-limits-eq0-2.result _ (reads_no_layer c.args.limits.brackets c.args.limits.room c.args.limits.layers c.args.kind (lexemes c.args.tokens.now) c.if-limits-eq0-2.true)

pub read-returns-in_err-first-clause-read : goal.read-returns-in_err-first-clause-read
read-returns-in_err-first-clause-read g t c =
    let p = err_from_is_err_and c.from_residual.result c.from_residual.ensures.1 in
    rw (p.1, p.2)
    (fails_on c.in_err-first.field-0.0 _ _ (read_fails c.args.limits.brackets c.args.limits.room c.args.limits.layers c.args.kind (lexemes c.args.tokens.now) c.if-limits-eq0.false c.if-limits-eq0-2.false) c.in_err-first.ensures.read)

pub read-returns-in-Phrase-clause-read : goal.read-returns-in-Phrase-clause-read
read-returns-in-Phrase-clause-read g t c =
    gives_as _ c.climb.result _ _
    (read_climbs c.args.limits.brackets c.args.limits.room c.args.limits.layers c.args.kind (lexemes c.args.tokens.now) c.if-limits-eq0.false c.if-limits-eq0-2.false (shape c.in_ok-first.first.tree, lexemes c.in_ok-first.rest.now) c.in-Phrase.limit c.in_ok-first.ensures.read c.in-Phrase.is)
    c.climb.ensures.read

pub read-returns-in_default-clause-read : goal.read-returns-in_default-clause-read
read-returns-in_default-clause-read g t c =
    read_ends c.args.limits.brackets c.args.limits.room c.args.limits.layers c.args.kind (lexemes c.args.tokens.now) c.if-limits-eq0.false c.if-limits-eq0-2.false (shape c.in_ok-first.first.tree, lexemes c.in_ok-first.rest.now) c.in_ok-first.ensures.read c.in_default.not-Phrase

piece_is : (b r n : ℕ) (p q : Piece) (parts : List Syntax) (toks : List Lexeme) → p ≡ q → step (reader b r n) (may_open b) p parts toks ≡ step (reader b r n) (may_open b) q parts toks
piece_is b r n p q parts toks e = ap (λ (p : Piece). step (reader b r n) (may_open b) p parts toks) e

pub step-returns-in-Sign-clause-read : goal.step-returns-in-Sign-clause-read
unfolding step
step-returns-in-Sign-clause-read g t c =
    gives_as _ c.kept.result _ _ (piece_is c.args.limits.brackets c.args.limits.room c.args.limits.layers c.args.piece _ (shapes c.args.parts.trees.items) (lexemes c.args.tokens.now) c.in-Sign.is) c.kept.ensures.read

pub step-returns-in-Sign-clause-high : goal.step-returns-in-Sign-clause-high
step-returns-in-Sign-clause-high g t c = c.kept.ensures.high c.args.limits.room c.requires.low

pub step-returns-in-Open-clause-read : goal.step-returns-in-Open-clause-read
unfolding step
step-returns-in-Open-clause-read g t c =
    gives_as _ c.kept-in-Open.result _ _
    (piece_is c.args.limits.brackets c.args.limits.room c.args.limits.layers c.args.piece _ (shapes c.args.parts.trees.items) (lexemes c.args.tokens.now) c.in-Open.is
    ∙ ap (λ (b : Bool). kept b (shapes c.args.parts.trees.items) (after (signs.Symbol c.in-Open.symbol) (lexemes c.args.tokens.now))) (sym c.may_open-may.ensures))
    c.kept-in-Open.ensures.read

pub step-returns-in-Open-clause-high : goal.step-returns-in-Open-clause-high
step-returns-in-Open-clause-high g t c = c.kept-in-Open.ensures.high c.args.limits.room c.requires.low

pub step-returns-in-Name-clause-read : goal.step-returns-in-Name-clause-read
unfolding step
step-returns-in-Name-clause-read g t c =
    gives_as _ c.added.result _ _ (piece_is c.args.limits.brackets c.args.limits.room c.args.limits.layers c.args.piece _ (shapes c.args.parts.trees.items) (lexemes c.args.tokens.now) c.in-Name.is) (c.added.ensures.read (name_at (lexemes c.args.tokens.now)) c.name_at.ensures.read)

pub step-returns-in-Name-clause-high : goal.step-returns-in-Name-clause-high
step-returns-in-Name-clause-high g t c = c.added.ensures.high c.args.limits.room c.requires.low (c.name_at.ensures.low c.args.limits.room)

pub step-returns-in-Part-clause-read : goal.step-returns-in-Part-clause-read
unfolding step
step-returns-in-Part-clause-read g t c =
    gives_as _ c.added-in-Part.result _ _ (piece_is c.args.limits.brackets c.args.limits.room c.args.limits.layers c.args.piece _ (shapes c.args.parts.trees.items) (lexemes c.args.tokens.now) c.in-Part.is) (c.added-in-Part.ensures.read (reader c.args.limits.brackets c.args.limits.room c.args.limits.layers c.in-Part.place c.in-Part.kind (lexemes c.args.tokens.now)) c.part.ensures.read)

pub step-returns-in-Part-clause-high : goal.step-returns-in-Part-clause-high
step-returns-in-Part-clause-high g t c = c.added-in-Part.ensures.high c.args.limits.room c.requires.low c.part.ensures.high

pub operand-returns-then-is_alone-clause-high : goal.operand-returns-then-is_alone-clause-high
operand-returns-then-is_alone-clause-high g t c = c.name_at.ensures.low c.args.limits.room

pub grown-row-requires : goal.grown-row-requires
grown-row-requires g t c =
    let short : length c.behind.result.now ≤ 9 = behind_short c.args.operator c.behind.result.now c.behind.ensures in
    search (rules, short)

pub node-row-requires : goal.node-row-requires
node-row-requires g t c =
    let short : length c.front.result.now ≤ 9 = front_short c.args.form c.front.result.now c.front.ensures in
    search (rules, short)

pub node-row-requires-2 : goal.node-row-requires-2
node-row-requires-2 g t c =
    let short : length c.back.result.now ≤ 9 = back_short c.args.fields c.turned-form.result c.back.result.now c.back.ensures in
    search (rules, short)
