use Rattle.std.proofs.Common.{◌≡◌, ◌++◌, ◌∷◌, [], nat_eq, false, sym, ap, ◌∙◌, subst, arith}
use Rattle.std.proofs.lemmas.List.{length-map}
use Rattle.std.specs.Cmp.Lexicographic.{pointwise}
use Rattle.indexmap.specs.IndexMap.{insert_entry}
use Rattle.alphabet.specs.Channels.{is_declared}
use Rattle.alphabet.specs.Stored.{channel_of}
use Rattle.alphabet.specs.Tables.{declared_channels, stored_names}
use Rattle.alphabet.proofs.Declaring.{IsNext}
use Rattle.alphabet.proofs.Entering.{on_ok, pushed, channels-insert, names_fresh, tables-push}
use Rattle.alphabet.proofs.table.Alphabet.enter.Goals as goal

pub add_names-requires-clause-fresh : goal.add_names-requires-clause-fresh
add_names-requires-clause-fresh g c =
    let new = channel_of c.args.channel.now c.args.fields.now in
    let next : IsNext c.args.self.now new =
    record {
      named = c.requires.named;
      new = c.requires.fresh;
      fielded = c.requires.in_order;
      ranged = c.in_ok-copies.ensures.ranged;
      apart = c.requires.apart;
      small = omega (arith, c.requires.all, c.requires.small);
    } in
    names_fresh (declared_channels c.self.inside.channels.entries) new (stored_names c.self.inside.names.keys) c.self.inside.firsts.items c.self.invariant (subst (λ cs. IsNext cs new) (sym c.self.view_is) next)

pub invariant_of-self-2 : goal.invariant_of-self-2
invariant_of-self-2 g c =
    let old = declared_channels c.self.inside.channels.entries in
    let new = channel_of c.args.channel.now c.args.fields.now in
    let next : IsNext c.args.self.now new =
    record {
      named = c.requires.named;
      new = c.requires.fresh;
      fielded = c.requires.in_order;
      ranged = c.in_ok-copies.ensures.ranged;
      apart = c.requires.apart;
      small = omega (arith, c.requires.all, c.requires.small);
    } in
    let next_here : IsNext old new = subst (λ cs. IsNext cs new) (sym c.self.view_is) next in
    let entered = on_ok c.insert-entered.result (c.insert-entered.new.self.entries ≡ insert_entry (λ a b. pointwise nat_eq a.items b.items) c.reserve.new.self.entries c.in_ok-name.name c.in_ok-copies.copies) (c.insert-entered.ensures.succeeds (omega (arith, c.in_ok-reserve.ensures.ok))) c.insert-entered.ensures.entries in
    tables-push old (declared_channels c.insert-entered.new.self.entries) new (stored_names c.self.inside.names.keys) (stored_names c.add_names.new.names.keys) c.self.inside.firsts.items c.push-begun.new.self.items c.len-first.result c.self.invariant next_here
    (channels-insert c.self.inside.channels.entries c.reserve.new.self.entries c.insert-entered.new.self.entries c.in_ok-name.name c.in_ok-copies.copies c.args.channel.now c.args.fields.now
    c.in_ok-reserve.ensures.entries c.in_ok-name.ensures.items c.in_ok-copies.ensures.same next_here.new entered)
    c.in_ok-add_names.ensures.added
    (c.len-first.ensures.len ∙ sym (length-map c.self.inside.names.keys (λ key. key.items)))
    (pushed c.push-begun.result c.self.inside.firsts.items c.reserve-2.new.self.items c.push-begun.new.self.items c.len-first.result
    (c.push-begun.ensures.succeeds (omega (arith, c.in_ok-reserve-2.ensures.ok))) c.in_ok-reserve-2.ensures.items c.push-begun.ensures.items)

pub returns-clause-declared : goal.returns-clause-declared
returns-clause-declared g c =
    let entered = on_ok c.insert-entered.result (c.insert-entered.new.self.entries ≡ insert_entry (λ a b. pointwise nat_eq a.items b.items) c.reserve.new.self.entries c.in_ok-name.name c.in_ok-copies.copies) (c.insert-entered.ensures.succeeds (omega (arith, c.in_ok-reserve.ensures.ok))) c.insert-entered.ensures.entries in
    let new_here : is_declared (declared_channels c.self.inside.channels.entries) c.args.channel.now ≡ false = ap (λ cs. is_declared cs c.args.channel.now) c.self.view_is ∙ c.requires.fresh in
    channels-insert c.self.inside.channels.entries c.reserve.new.self.entries c.insert-entered.new.self.entries c.in_ok-name.name c.in_ok-copies.copies c.args.channel.now c.args.fields.now
    c.in_ok-reserve.ensures.entries c.in_ok-name.ensures.items c.in_ok-copies.ensures.same new_here entered
    ∙ ap (λ cs. cs ++ channel_of c.args.channel.now c.args.fields.now ∷ []) c.self.view_is
