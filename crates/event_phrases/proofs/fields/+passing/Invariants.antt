use Rattle.std.proofs.Common.{◌≡◌, ◌+◌, ◌*◌, drop, length, map}
use Rattle.alphabet.specs.Channels.{FieldValue}
use Rattle.syntax.specs.View.{shapes}
use Rattle.values.specs.Tables.{input}
use Rattle.event_phrases.specs.Forms.{field_of}
use Rattle.event_phrases.specs.Prefixes.{all_pass, fields_pass}
use Rattle.event_phrases.specs.Scopes.{with_input, within}
use Rattle.event_phrases.specs.View.{listed}
use Rattle.event_phrases.proofs.fields.+passing.Given as goal

abbrev pub decreases-fields_pass : goal.decreases-fields_pass
decreases-fields_pass g l = 2 * length l.fields.now

abbrev pub decreases-all_pass : goal.decreases-all_pass
decreases-all_pass g l = 2 * length l.rest.0.now + 1

abbrev pub invariant-all_pass-loop-value : goal.invariant-all_pass-loop-value
invariant-all_pass-loop-value g l =
    let s = within (g.G.GlobalScope.scope l.global) (map input l.inputs) in
    let test = λ (v : FieldValue). fields_pass (map field_of (shapes l.rest.0.now)) (map (λ v. listed v.items) l.rest.1.now) (with_input s l.name v) in
    all_pass test (listed (drop l.value-index l.values)) ≡ all_pass test (listed l.values)
