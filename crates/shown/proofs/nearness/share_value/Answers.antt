use Rattle.std.proofs.Common.{◌∙◌, ap, sym, ℕ, List, drop}
use Rattle.std.specs.List.{list_any}
use Rattle.shown.specs.Nearness.{has_part, parts, value_parts}
use Rattle.shown.proofs.Parting.{parts_cut, parts_none, none_common}
use Rattle.shown.proofs.nearness.share_value.Goals as goal

pub returns-in_default : goal.returns-in_default
returns-in_default c = sym (ap (λ (ps : List (List ℕ)). list_any (has_part (value_parts c.args.other.now)) (drop 1 ps)) (parts_none c.args.name.now c.in_default.ensures))

pub returns-in_default-cut : goal.returns-in_default-cut
returns-in_default-cut c =
    sym (ap (λ (ps : List (List ℕ)). list_any (has_part (drop 1 ps)) (value_parts c.args.name.now)) (parts_none c.args.other.now c.in_default-cut.ensures) ∙ none_common (value_parts c.args.name.now))

pub returns : goal.returns
returns c =
    c.have_common.ensures
    ∙ sym (ap (λ (ps : List (List ℕ)). list_any (has_part (drop 1 ps)) (value_parts c.args.name.now)) (parts_cut c.args.other.now c.in-Some-cut.field-0-0.now c.in-Some-cut.others.now c.in-Some-cut.ensures.0 c.in-Some-cut.ensures.1)
    ∙ ap (λ (ps : List (List ℕ)). list_any (has_part (parts c.in-Some-cut.others.now)) (drop 1 ps)) (parts_cut c.args.name.now c.in-Some.field-0-0.now c.in-Some.values.now c.in-Some.ensures.0 c.in-Some.ensures.1))
