use Rattle.std.proofs.Common.{◌≡◌, ◌<◌, ◌≤◌, ◌++◌, ◌∷◌, [], true, false, sym, ap, ◌∙◌, refl, subst, arith}
use Rattle.std.proofs.lemmas.Bool.{false≢true}
use Rattle.alphabet.specs.Channels.{is_declared, event_count}
use Rattle.alphabet.specs.Stored.{channel_of}
use Rattle.alphabet.specs.Tables.{declared_channels}
use Rattle.alphabet.proofs.Declaring.{too_many, not_too_many}
use Rattle.alphabet.proofs.Entering.{declared_by_lookup}
use Rattle.alphabet.proofs.table.Alphabet.declare.Goals as goal

pub returns-then-contains_key-clause-redeclared : goal.returns-then-contains_key-clause-redeclared
returns-then-contains_key-clause-redeclared g c =
    let known : is_declared c.args.self.now c.args.channel.now ≡ true =
    ap (λ cs. is_declared cs c.args.channel.now) (sym c.self.view_is) ∙ sym (declared_by_lookup c.self.inside.channels.entries c.args.channel.now) ∙ sym c.contains_key.ensures ∙ c.if-contains_key.true in
    ((λ _. known), (λ _. refl))

pub returns-then-contains_key-clause-too_many : goal.returns-then-contains_key-clause-too_many
returns-then-contains_key-clause-too_many g c =
    let known : is_declared c.args.self.now c.args.channel.now ≡ true =
    ap (λ cs. is_declared cs c.args.channel.now) (sym c.self.view_is) ∙ sym (declared_by_lookup c.self.inside.channels.entries c.args.channel.now) ∙ sym c.contains_key.ensures ∙ c.if-contains_key.true in
    ((λ e. absurd (cc)), (λ p. absurd (false≢true (sym p.0 ∙ known))))

pub returns-then-total-len-clause-redeclared : goal.returns-then-total-len-clause-redeclared
returns-then-total-len-clause-redeclared g c =
    let unknown : is_declared c.args.self.now c.args.channel.now ≡ false =
    ap (λ cs. is_declared cs c.args.channel.now) (sym c.self.view_is) ∙ sym (declared_by_lookup c.self.inside.channels.entries c.args.channel.now) ∙ sym c.contains_key.ensures ∙ c.if-contains_key.false in
    ((λ e. absurd (cc)), (λ t. absurd (false≢true (sym unknown ∙ t))))

pub returns-then-total-len-clause-too_many : goal.returns-then-total-len-clause-too_many
returns-then-total-len-clause-too_many g c =
    let unknown : is_declared c.args.self.now c.args.channel.now ≡ false =
    ap (λ cs. is_declared cs c.args.channel.now) (sym c.self.view_is) ∙ sym (declared_by_lookup c.self.inside.channels.entries c.args.channel.now) ∙ sym c.contains_key.ensures ∙ c.if-contains_key.false in
    let many = too_many (λ key. key.items) c.self.inside.names.keys (declared_channels c.self.inside.channels.entries) (channel_of c.args.channel.now c.args.fields.now) c.len.result c.event_total-total.result
    c.self.invariant.listed c.len.ensures.len c.event_total-total.ensures c.self.invariant.sound.small c.if-total-len.true in
    ((λ _. (unknown, subst (λ cs. 256 < event_count (cs ++ channel_of c.args.channel.now c.args.fields.now ∷ [])) c.self.view_is many)), (λ _. refl))

pub enter-requires-clause-fresh : goal.enter-requires-clause-fresh
enter-requires-clause-fresh g c =
    ap (λ cs. is_declared cs c.args.channel.now) (sym c.self.view_is) ∙ sym (declared_by_lookup c.self.inside.channels.entries c.args.channel.now) ∙ sym c.contains_key.ensures ∙ c.if-contains_key.false

pub returns-in-Ok-clause-redeclared : goal.returns-in-Ok-clause-redeclared
returns-in-Ok-clause-redeclared g c =
    let unknown : is_declared c.args.self.now c.args.channel.now ≡ false =
    ap (λ cs. is_declared cs c.args.channel.now) (sym c.self.view_is) ∙ sym (declared_by_lookup c.self.inside.channels.entries c.args.channel.now) ∙ sym c.contains_key.ensures ∙ c.if-contains_key.false in
    ((λ e. absurd (cc)), (λ t. absurd (false≢true (sym unknown ∙ t))))

pub returns-in-Ok-clause-too_many : goal.returns-in-Ok-clause-too_many
returns-in-Ok-clause-too_many g c =
    let few = not_too_many (λ key. key.items) c.self.inside.names.keys (declared_channels c.self.inside.channels.entries) (channel_of c.args.channel.now c.args.fields.now) c.len.result c.event_total-total.result
    c.self.invariant.listed c.len.ensures.len c.event_total-total.ensures c.if-total-len.false c.self.invariant.sound.small in
    let fits : event_count (c.args.self.now ++ channel_of c.args.channel.now c.args.fields.now ∷ []) ≤ 256 = subst (λ cs. event_count (cs ++ channel_of c.args.channel.now c.args.fields.now ∷ []) ≤ 256) c.self.view_is few in
    ((λ e. absurd (cc)), (λ p. absurd (omega (arith, p.1, fits))))

pub returns-in-Err-clause-redeclared : goal.returns-in-Err-clause-redeclared
returns-in-Err-clause-redeclared g c =
    let unknown : is_declared c.args.self.now c.args.channel.now ≡ false =
    ap (λ cs. is_declared cs c.args.channel.now) (sym c.self.view_is) ∙ sym (declared_by_lookup c.self.inside.channels.entries c.args.channel.now) ∙ sym c.contains_key.ensures ∙ c.if-contains_key.false in
    ((λ e. absurd (cc)), (λ t. absurd (false≢true (sym unknown ∙ t))))

pub returns-in-Err-clause-too_many : goal.returns-in-Err-clause-too_many
returns-in-Err-clause-too_many g c =
    let few = not_too_many (λ key. key.items) c.self.inside.names.keys (declared_channels c.self.inside.channels.entries) (channel_of c.args.channel.now c.args.fields.now) c.len.result c.event_total-total.result
    c.self.invariant.listed c.len.ensures.len c.event_total-total.ensures c.if-total-len.false c.self.invariant.sound.small in
    let fits : event_count (c.args.self.now ++ channel_of c.args.channel.now c.args.fields.now ∷ []) ≤ 256 = subst (λ cs. event_count (cs ++ channel_of c.args.channel.now c.args.fields.now ∷ []) ≤ 256) c.self.view_is few in
    ((λ e. absurd (cc)), (λ p. absurd (omega (arith, p.1, fits))))
