use Rattle.std.proofs.Common.{[], ◌∷◌, ◌++◌, List, sym, ap, ◌∙◌}
use Rattle.std.specs.List.{list_all}
use Rattle.alphabet.specs.Names.{is_name}
use Rattle.alphabet.specs.Channels.{Channel, is_field, are_apart}
use Rattle.alphabet.specs.Stored.{channel_of}
use Rattle.alphabet.proofs.CopyLemmas.{all_at, apart_next, take_next, on_ok}
use Rattle.alphabet.proofs.copying.copy_of.Goals as goal

pub declare-requires-clause-named : goal.declare-requires-clause-named
declare-requires-clause-named g c =
    all_at (λ (d : Channel). is_name d.name) c.args.alphabet.now c.loop-index.index (channel_of c.in-Some.name.now c.in-Some.fields.now) c.channels-index-end.ensures.sound.named c.in-Some.ensures.value

pub declare-requires-clause-in_order : goal.declare-requires-clause-in_order
declare-requires-clause-in_order g c =
    all_at (λ (d : Channel). list_all is_field d.fields) c.args.alphabet.now c.loop-index.index (channel_of c.in-Some.name.now c.in-Some.fields.now) c.channels-index-end.ensures.sound.fielded c.in-Some.ensures.value

pub declare-requires-clause-apart : goal.declare-requires-clause-apart
declare-requires-clause-apart g c =
    let next = channel_of c.in-Some.name.now c.in-Some.fields.now in
    ap (λ (l : List Channel). are_apart (l ++ next ∷ [])) c.loop-index.invariant
    ∙ apart_next c.args.alphabet.now c.loop-index.index next c.channels-index-end.ensures.sound.apart c.in-Some.ensures.value

pub loop-index-preserved : goal.loop-index-preserved
loop-index-preserved g c =
    let next = channel_of c.in-Some.name.now c.in-Some.fields.now in
    on_ok c.declare.result (sym c.is_err.ensures.value ∙ c.if-is_err.false) c.declare.ensures.declared
    ∙ ap (λ (l : List Channel). l ++ next ∷ []) c.loop-index.invariant
    ∙ take_next c.args.alphabet.now c.loop-index.index next c.in-Some.ensures.value
