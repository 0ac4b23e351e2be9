use Rattle.std.proofs.Common.{sym, ap, ◌∙◌, arith}
use Rattle.values.specs.Names.{is_constant, meaning}
use Rattle.declared_names.specs.View.{entries}
use Rattle.declared_names.proofs.ParameterNames.{plain, behind_none, behind_more, behind_twice, behind_constant, behind_end, is_new, isnt_new, key_added}
use Rattle.declared_names.proofs.parameters.put_parameters.Goals as goal

pub loop-name-init : goal.loop-name-init
loop-name-init g c = behind_none (entries c.args.entries.now) c.args.earlier.now.keys (plain c.args.names.now) c.requires

pub returns-then-is_constant : goal.returns-then-is_constant
returns-then-is_constant g c =
    behind_constant (entries c.args.entries.now) c.loop-name.earlier.keys c.args.names.now c.loop-name.name-index c.name-item.result _ c.loop-name.invariant (omega arith) c.name-item.is
    (ap (λ n. is_constant (meaning (entries c.args.entries.now) n)) (sym c.as_slice-text.ensures.value) ∙ sym c.is_constant.ensures ∙ c.if-is_constant.true)

pub returns-then-not-new : goal.returns-then-not-new
returns-then-not-new g c =
    behind_twice (entries c.args.entries.now) c.loop-name.earlier.keys c.args.names.now c.loop-name.name-index c.name-item.result c.as_slice-text.result _ c.loop-name.invariant (omega arith) c.name-item.is
    c.as_slice-text.ensures.value (isnt_new _ _ c.in_ok-new.ensures.added c.if-not-new.true)

pub loop-name-preserved : goal.loop-name-preserved
loop-name-preserved g c =
    behind_more (entries c.args.entries.now) c.loop-name.earlier.keys c.insert.new.self.keys c.args.names.now c.loop-name.name-index c.name-item.result c.as_slice-text.result _ c.loop-name.invariant (omega arith) c.name-item.is
    (ap (λ n. is_constant (meaning (entries c.args.entries.now) n)) (sym c.as_slice-text.ensures.value) ∙ sym c.is_constant.ensures ∙ c.if-is_constant.false)
    c.as_slice-text.ensures.value (is_new _ _ c.in_ok-new.ensures.added c.if-not-new.false)
    (key_added c.loop-name.earlier.keys c.insert.new.self.keys c.as_slice-text.result (is_new _ _ c.in_ok-new.ensures.added c.if-not-new.false) c.in_ok-new.ensures.keys)

pub returns : goal.returns
returns g c = behind_end (entries c.args.entries.now) c.loop-name.earlier.keys c.args.names.now c.loop-name.name-index _ c.loop-name.invariant (omega arith)
