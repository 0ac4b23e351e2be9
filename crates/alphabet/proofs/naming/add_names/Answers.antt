use Rattle.std.proofs.Common.{◌<◌, [], length, take, ap, ◌∙◌, subst, arith}
use Rattle.alphabet.specs.Stored.{channel_of}
use Rattle.alphabet.specs.Naming.{own_names}
use Rattle.alphabet.specs.Elements.{In}
use Rattle.alphabet.specs.Tables.{stored_names}
use Rattle.alphabet.proofs.Choices.{length-own_names}
use Rattle.alphabet.proofs.Lists.{fresh_next}
use Rattle.alphabet.proofs.Lookups.{cut_back}
use Rattle.alphabet.proofs.naming.add_names.Goals as goal

pub add_name-requires-clause-fresh : goal.add_name-requires-clause-fresh
add_name-requires-clause-fresh g c =
    let here : c.loop-number.number < length (own_names (channel_of c.args.channel.now c.args.fields.now)) = omega (arith, c.requires.all, length-own_names (channel_of c.args.channel.now c.args.fields.now)) in
    λ i. fresh_next (stored_names c.args.names.now.keys) (own_names (channel_of c.args.channel.now c.args.fields.now)) c.loop-number.number [] here c.requires.fresh (subst (In _) c.loop-number.invariant i)

pub returns-in-Err-clause-unchanged : goal.returns-in-Err-clause-unchanged
returns-in-Err-clause-unchanged g c =
    cut_back (λ key. key.items) c.args.names.now.keys c.loop-number.names.keys c.truncate.new.self.keys (take c.loop-number.number (own_names (channel_of c.args.channel.now c.args.fields.now))) c.len-before.result
    (c.truncate.ensures.keys ∙ ap (take c.len-before.result) c.in-Err.ensures.unchanged)
    c.len-before.ensures.len
    c.loop-number.invariant
