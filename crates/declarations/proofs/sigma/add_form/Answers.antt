use Rattle.std.proofs.Common.{None, Some, subst, ap, sym, ◌∙◌}
use Rattle.std.proofs.lemmas.Result.{err_from_is_err_and}
use Rattle.syntax.proofs.Failing.{fails_on}
use Rattle.syntax.specs.Parsing.{syntaxes}
use Rattle.syntax.specs.View.{shape, shapes}
use Rattle.values.specs.Names.{listed_names, entries_of}
use Rattle.values.specs.Tables.{table}
use Rattle.declared_names.specs.Steps.{only_of, two_of}
use Rattle.declarations.specs.Sigma.{entered, channels_named, Follows}
use Rattle.declarations.proofs.Entire.{of_only, of_two, other_channels}
use Rattle.declarations.proofs.Parted.{no_more}
use Rattle.declarations.proofs.sigma.add_form.Goals as goal

pub returns-in_err-names-in-Channels : goal.returns-in_err-names-in-Channels
returns-in_err-names-in-Channels g c =
    let p = err_from_is_err_and c.from_residual.result c.from_residual.ensures.1 in
    let ts = syntaxes (shapes c.args.parts.now) in
    let all = entered (table c.args.known.now) c.args.alphabet.now (entries_of c.args.form ts) in
    rw (p.1, p.2) (fails_on c.in_err-names-in-Channels.field-0.0 (only_of ts) all (λ n. ap (entered (table c.args.known.now) c.args.alphabet.now) (of_only c.args.form ts None c.in-Channels.is n)) c.in_err-names-in-Channels.ensures)

pub add_list-requires : goal.add_list-requires
add_list-requires g c =
    let names = shape c.in_ok-names-in-Channels.names.now in
    subst (Follows (table c.args.known.now) c.args.alphabet.now)
    (of_only c.args.form (syntaxes (shapes c.args.parts.now)) (Some names) c.in-Channels.is c.in_ok-names-in-Channels.ensures
    ∙ ap (λ ts. channels_named (listed_names names) (syntaxes (shapes ts))) (sym c.no_parts.ensures))
    c.requires

pub returns-in_err-names-in-ChannelsWithFields : goal.returns-in_err-names-in-ChannelsWithFields
returns-in_err-names-in-ChannelsWithFields g c =
    let p = err_from_is_err_and c.from_residual-in_err-names-in-ChannelsWithFields.result c.from_residual-in_err-names-in-ChannelsWithFields.ensures.1 in
    let ts = syntaxes (shapes c.args.parts.now) in
    let all = entered (table c.args.known.now) c.args.alphabet.now (entries_of c.args.form ts) in
    rw (p.1, p.2) (fails_on c.in_err-names-in-ChannelsWithFields.field-0.0 (two_of ts) all (λ n. ap (entered (table c.args.known.now) c.args.alphabet.now) (of_two c.args.form ts None c.in-ChannelsWithFields.is n)) c.in_err-names-in-ChannelsWithFields.ensures)

pub add_fielded-requires : goal.add_fielded-requires
add_fielded-requires g c =
    subst (Follows (table c.args.known.now) c.args.alphabet.now)
    (of_two c.args.form (syntaxes (shapes c.args.parts.now)) (Some (shape c.in_ok-names-in-ChannelsWithFields.names.now, shape c.in_ok-names-in-ChannelsWithFields.sets.now)) c.in-ChannelsWithFields.is c.in_ok-names-in-ChannelsWithFields.ensures)
    c.requires

pub returns-in_ok-names-in-Channels : goal.returns-in_ok-names-in-Channels
returns-in_ok-names-in-Channels g c =
    let names = shape c.in_ok-names-in-Channels.names.now in
    rw (
    of_only c.args.form (syntaxes (shapes c.args.parts.now)) (Some names) c.in-Channels.is c.in_ok-names-in-Channels.ensures
    ∙ ap (λ ts. channels_named (listed_names names) (syntaxes (shapes ts))) (sym c.no_parts.ensures)
    ) c.add_list.ensures

pub returns-in_ok-names-in-ChannelsWithFields : goal.returns-in_ok-names-in-ChannelsWithFields
returns-in_ok-names-in-ChannelsWithFields g c =
    rw (
    of_two c.args.form (syntaxes (shapes c.args.parts.now)) (Some (shape c.in_ok-names-in-ChannelsWithFields.names.now, shape c.in_ok-names-in-ChannelsWithFields.sets.now)) c.in-ChannelsWithFields.is c.in_ok-names-in-ChannelsWithFields.ensures
    ) c.add_fielded.ensures

pub returns-in_default : goal.returns-in_default
returns-in_default g c =
    let known = table c.args.known.now in
    let ts = syntaxes (shapes c.args.parts.now) in
    no_more known c.args.alphabet.now (entries_of c.args.form ts) c.requires (λ es e. other_channels known c.args.form ts es c.in_default.not-Channels c.in_default.not-ChannelsWithFields e)
