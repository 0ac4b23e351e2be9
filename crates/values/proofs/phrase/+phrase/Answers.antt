use Rattle.std.proofs.Common.{◌≡◌, length, arith, subst, sym, map, ap, ◌∙◌}
use Rattle.std.proofs.lemmas.Result.{err_from_is_err_and}
use Rattle.syntax.specs.declared.form.Form.TheVariants as forms
use Rattle.syntax.specs.Grammar.{Node}
use Rattle.syntax.specs.Parsing.{syntaxes}
use Rattle.syntax.specs.View.{shape, shapes}
use Rattle.values.specs.Worths.{worth as worth_in, worths as worths_in}
use Rattle.values.specs.Lazy.{connective, form_of}
use Rattle.values.specs.View.{Gives, worth}
use Rattle.values.specs.Tables.{table, input, behind}
use Rattle.syntax.proofs.Failing.{fails_none}
use Rattle.values.proofs.Branches.{not_two, not_three, if_fails, if_so, if_not, first_fails, first_decides, second_fails, second_decides}
use Rattle.values.proofs.Parts.{name_is, condition_is, parts_start, parts_more, parts_fail, parts_end, node_made, node_fails, lazy_is}
use Rattle.values.proofs.phrase.+phrase.Goals as goal

pub each_stands_for-returns-in_err-stands_for : goal.each_stands_for-returns-in_err-stands_for
each_stands_for-returns-in_err-stands_for g t c =
    let p = err_from_is_err_and c.from_residual-in_err-stands_for.result c.from_residual-in_err-stands_for.ensures.1 in
    rw (p.1, p.2) (parts_fail (behind (table c.args.known.now) (map input c.args.inputs.now)) c.in_err-stands_for.field-0.0 c.args.trees.now c.loop-tree.tree-index c.tree-item.result c.loop-tree.worths.items (worths_in (behind (table c.args.known.now) (map input c.args.inputs.now)) (syntaxes (shapes c.args.trees.now))) c.loop-tree.invariant (omega arith) c.tree-item.is c.in_err-stands_for.ensures)

pub each_stands_for-loop-tree-init : goal.each_stands_for-loop-tree-init
each_stands_for-loop-tree-init g t c = parts_start (behind (table c.args.known.now) (map input c.args.inputs.now)) c.args.trees.now c.new-worths.result.items c.new-worths.ensures.items

pub each_stands_for-loop-tree-preserved : goal.each_stands_for-loop-tree-preserved
each_stands_for-loop-tree-preserved g t c =
    parts_more (behind (table c.args.known.now) (map input c.args.inputs.now)) c.args.trees.now c.loop-tree.tree-index c.tree-item.result c.loop-tree.worths.items c.push.new.self.items c.in_ok-stands_for.field-0 _ c.loop-tree.invariant (omega arith) c.tree-item.is c.in_ok-stands_for.ensures c.in_ok-push.ensures.items

pub each_stands_for-returns : goal.each_stands_for-returns
each_stands_for-returns g t c =
    parts_end (behind (table c.args.known.now) (map input c.args.inputs.now)) c.args.trees.now c.loop-tree.tree-index c.loop-tree.worths.items _ c.loop-tree.invariant (omega arith)

pub conditional-returns-in_err-truth-in-len3 : goal.conditional-returns-in_err-truth-in-len3
conditional-returns-in_err-truth-in-len3 g t c =
    let p = err_from_is_err_and c.from_residual.result c.from_residual.ensures.1 in
    rw (p.1, p.2) (if_fails (behind (table c.args.known.now) (map input c.args.inputs.now)) c.args.parts.now c.condition-item.result c.first-item.result c.second-item.result (omega arith) c.condition-item.is c.first-item.is c.second-item.is c.in_err-truth-in-len3.field-0.0 c.in_err-truth-in-len3.ensures)

pub conditional-returns-then-truth : goal.conditional-returns-then-truth
conditional-returns-then-truth g t c =
    subst (λ o. Gives worth c.stands_for.result o) (sym (if_so (behind (table c.args.known.now) (map input c.args.inputs.now)) c.args.parts.now c.condition-item.result c.first-item.result c.second-item.result (omega arith) c.condition-item.is c.first-item.is c.second-item.is c.in_ok-truth-in-len3.truth c.in_ok-truth-in-len3.ensures c.if-truth.true)) c.stands_for.ensures

pub conditional-returns-else-truth : goal.conditional-returns-else-truth
conditional-returns-else-truth g t c =
    subst (λ o. Gives worth c.stands_for-else-truth.result o) (sym (if_not (behind (table c.args.known.now) (map input c.args.inputs.now)) c.args.parts.now c.condition-item.result c.first-item.result c.second-item.result (omega arith) c.condition-item.is c.first-item.is c.second-item.is c.in_ok-truth-in-len3.truth c.in_ok-truth-in-len3.ensures c.if-truth.false)) c.stands_for-else-truth.ensures

pub conditional-returns-in_default : goal.conditional-returns-in_default
conditional-returns-in_default g t c =
    fails_none c.fault.result _ (not_three (behind (table c.args.known.now) (map input c.args.inputs.now)) c.args.parts.now (λ (e : length c.args.parts.now ≡ 3). grind (arith, e)))

pub connected-returns-in_err-truth-in-len2 : goal.connected-returns-in_err-truth-in-len2
connected-returns-in_err-truth-in-len2 g t c =
    let p = err_from_is_err_and c.from_residual.result c.from_residual.ensures.1 in
    rw (p.1, p.2) (first_fails (behind (table c.args.known.now) (map input c.args.inputs.now)) c.args.sides.now c.args.decisive c.first-item.result c.second-item.result (omega arith) c.first-item.is c.second-item.is c.in_err-truth-in-len2.field-0.0 c.in_err-truth-in-len2.ensures)

pub connected-returns-then-truth-decisive : goal.connected-returns-then-truth-decisive
connected-returns-then-truth-decisive g t c =
    first_decides (behind (table c.args.known.now) (map input c.args.inputs.now)) c.args.sides.now c.args.decisive c.first-item.result c.second-item.result (omega arith) c.first-item.is c.second-item.is c.in_ok-truth-in-len2.truth c.in_ok-truth-in-len2.ensures c.if-truth-decisive.true

pub connected-returns-in_err-other-in-len2 : goal.connected-returns-in_err-other-in-len2
connected-returns-in_err-other-in-len2 g t c =
    let p = err_from_is_err_and c.from_residual-in_err-other-in-len2.result c.from_residual-in_err-other-in-len2.ensures.1 in
    rw (p.1, p.2) (second_fails (behind (table c.args.known.now) (map input c.args.inputs.now)) c.args.sides.now c.args.decisive c.first-item.result c.second-item.result (omega arith) c.first-item.is c.second-item.is c.in_err-other-in-len2.field-0.0 c.in_ok-truth-in-len2.truth c.in_ok-truth-in-len2.ensures c.if-truth-decisive.false c.in_err-other-in-len2.ensures)

pub connected-returns-in_ok-other-in-len2 : goal.connected-returns-in_ok-other-in-len2
connected-returns-in_ok-other-in-len2 g t c =
    second_decides (behind (table c.args.known.now) (map input c.args.inputs.now)) c.args.sides.now c.args.decisive c.first-item.result c.second-item.result (omega arith) c.first-item.is c.second-item.is c.in_ok-truth-in-len2.truth c.in_ok-other-in-len2.other c.in_ok-truth-in-len2.ensures c.if-truth-decisive.false c.in_ok-other-in-len2.ensures

pub connected-returns-in_default : goal.connected-returns-in_default
connected-returns-in_default g t c =
    fails_none c.fault.result _ (not_two (behind (table c.args.known.now) (map input c.args.inputs.now)) c.args.decisive c.args.sides.now (λ (e : length c.args.sides.now ≡ 2). grind (arith, e)))

pub stands_for-returns-in_err-worths-in-None : goal.stands_for-returns-in_err-worths-in-None
stands_for-returns-in_err-worths-in-None g t c =
    let p = err_from_is_err_and c.from_residual-in_err-worths-in-None.result c.from_residual-in_err-worths-in-None.ensures.1 in
    rw (p.1, p.2) (node_fails c.in_err-worths-in-None.field-0.0 (behind (table c.args.known.now) (map input c.args.inputs.now)) c.args.tree.now c.in-Node.line c.in-Node.form c.in-Node.parts c.deref-in-None.result.now c.in-Node.is c.deref-in-None.ensures.value c.in-None.ensures c.in_err-worths-in-None.ensures)

pub stands_for-returns-in-Some-Condition : goal.stands_for-returns-in-Some-Condition
stands_for-returns-in-Some-Condition g t c =
    let same = c.in-Some-Condition.ensures ∙ ap form_of c.in-Some-Condition.field-0-is in
    subst (λ o. Gives worth c.conditional.result o)
    (sym (lazy_is (behind (table c.args.known.now) (map input c.args.inputs.now)) c.args.tree.now c.in-Node.line c.in-Node.form forms.If c.in-Node.parts c.deref-in-Some-Condition.result.now c.in-Node.is c.deref-in-Some-Condition.ensures.value same))
    c.conditional.ensures

pub stands_for-returns-in-Some-Connective : goal.stands_for-returns-in-Some-Connective
stands_for-returns-in-Some-Connective g t c =
    let same = c.in-Some-Connective.ensures ∙ ap form_of c.in-Some-Connective.field-0-is in
    subst (λ o. Gives worth c.connected.result o)
    (ap (λ d. worth_in (behind (table c.args.known.now) (map input c.args.inputs.now)) (Node (forms.Operation (connective d)) (syntaxes (shapes c.deref-in-Some-Connective.result.now)))) c.in-Some-Connective.decisive-is
    ∙ sym (lazy_is (behind (table c.args.known.now) (map input c.args.inputs.now)) c.args.tree.now c.in-Node.line c.in-Node.form (forms.Operation (connective c.in-Some-Connective.decisive)) c.in-Node.parts c.deref-in-Some-Connective.result.now c.in-Node.is c.deref-in-Some-Connective.ensures.value same))
    c.connected.ensures

pub stands_for-returns-in_ok-worths-in-None : goal.stands_for-returns-in_ok-worths-in-None
stands_for-returns-in_ok-worths-in-None g t c =
    subst (λ o. Gives worth c.formed.result o)
    (sym (node_made (behind (table c.args.known.now) (map input c.args.inputs.now)) c.args.tree.now c.in-Node.line c.in-Node.form c.in-Node.parts c.deref-in-None.result.now (map worth c.in_ok-worths-in-None.worths.items) c.in-Node.is c.deref-in-None.ensures.value c.in-None.ensures c.in_ok-worths-in-None.ensures))
    c.formed.ensures

pub stands_for-returns-in-Name : goal.stands_for-returns-in-Name
stands_for-returns-in-Name g t c =
    subst (λ o. Gives worth c.worth_behind.result o)
    (name_is (behind (table c.args.known.now) (map input c.args.inputs.now)) (shape c.args.tree.now) c.in-Name.text.items c.deref.result.now (ap shape c.in-Name.is) c.deref.ensures.value)
    c.worth_behind.ensures

pub truth_of_phrase-returns : goal.truth_of_phrase-returns
truth_of_phrase-returns g t c =
    subst (λ o. Gives (λ b. b) c.the_truth.result o)
    (sym (condition_is (behind (table c.args.known.now) (map input c.args.inputs.now)) (shape c.args.tree.now) (worth c.in_ok-worth.worth) c.in_ok-worth.ensures))
    c.the_truth.ensures
