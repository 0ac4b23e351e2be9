use Rattle.std.proofs.Common.{◌≡◌, ◌+◌, ◌-◌, ◌*◌, map, drop, length}
use Rattle.alphabet.specs.Channels.{events}
use Rattle.syntax.specs.View.{shape, shapes}
use Rattle.values.specs.Tables.{input}
use Rattle.event_phrases.specs.Forms.{field_of}
use Rattle.event_phrases.specs.Leading.{led_fits}
use Rattle.event_phrases.specs.Scopes.{within}
use Rattle.event_phrases.specs.View.{listed}
use Rattle.denotation.specs.Phrases.{phrase_of, weight, denoted, branches}
use Rattle.denotation.specs.Places.{from_scope}
use Rattle.denotation.specs.Rooms.{all_fit, behind}
use Rattle.denotation.specs.Shapes.{plain, or_stops}
use Rattle.denotation.specs.View.{body}
use Rattle.denotation.specs.Walks.{on_visits}
use Rattle.denotation.proofs.making.+making.Given as goal

abbrev pub decreases-process : goal.decreases-process
decreases-process g l = 6 * weight (phrase_of (shape l.tree.now)) + 1

abbrev pub decreases-made : goal.decreases-made
decreases-made g l = 6 * weight (plain l.phrase)

abbrev pub decreases-prefixed : goal.decreases-prefixed
decreases-prefixed g l = 6 * weight (phrase_of (shape l.then.now)) + 5

abbrev pub decreases-branches : goal.decreases-branches
decreases-branches g l = 6 * weight (phrase_of (shape l.prefix.now.then.now)) + 4

abbrev pub decreases-next_branch : goal.decreases-next_branch
decreases-next_branch g l = 6 * weight (phrase_of (shape l.prefix.now.then.now)) + 3

abbrev pub decreases-joined_phrases : goal.decreases-joined_phrases
decreases-joined_phrases g l = 6 * (weight (phrase_of (shape l.first.now)) + weight (phrase_of (shape l.second.now))) + 5

abbrev pub decreases-hiding_phrase : goal.decreases-hiding_phrase
decreases-hiding_phrase g l = 6 * weight (phrase_of (shape l.tree.now)) + 5

abbrev pub decreases-renaming_phrase : goal.decreases-renaming_phrase
decreases-renaming_phrase g l = 6 * weight (phrase_of (shape l.tree.now)) + 5

abbrev pub decreases-conditional_phrase : goal.decreases-conditional_phrase
decreases-conditional_phrase g l = 6 * (weight (phrase_of (shape l.trees.0.now)) + weight (or_stops l.trees.1)) + 5

abbrev pub decreases-put_process : goal.decreases-put_process
decreases-put_process g l = 6 * weight (phrase_of (shape l.tree.now)) + 2

abbrev pub decreases-over : goal.decreases-over
decreases-over g l = 6 * weight (phrase_of (shape l.then.now)) + 3

abbrev pub decreases-replicated_phrase : goal.decreases-replicated_phrase
decreases-replicated_phrase g l = 6 * weight (phrase_of (shape l.form.1.now)) + 5

abbrev pub decreases-over-loop-at : goal.decreases-over-loop-at
decreases-over-loop-at g l = length (from_scope (g.G.GlobalScope.scope l.scope.global.now) l.at)

abbrev pub invariant-over-loop-at : goal.invariant-over-loop-at
invariant-over-loop-at g l =
    let s = g.G.GlobalScope.scope l.scope.global.now in
    let next = denoted (phrase_of (shape l.then)) in
    behind (map body l.drafts.items) (all_fit l.room (on_visits next (from_scope s l.at))) ≡ all_fit l.fn.room (on_visits next (from_scope s l.fn.first))

abbrev pub decreases-branches-loop-drafts : goal.decreases-branches-loop-drafts
decreases-branches-loop-drafts g l = 256 - l.from

abbrev pub invariant-branches-loop-drafts : goal.invariant-branches-loop-drafts
invariant-branches-loop-drafts g l =
    let s = within (g.G.GlobalScope.scope l.scope.global.now) (map input l.scope.inputs.items) in
    let es = events (g.G.GlobalScope.scope l.scope.global.now).channels in
    let test = led_fits l.prefix.channel.now (listed l.prefix.leading.items) (map field_of (shapes l.prefix.fields.now)) (map (λ v. listed v.items) l.prefix.sets.now) s in
    let next = denoted (phrase_of (shape l.prefix.then.now)) in
    behind (map body l.drafts.items) (all_fit l.room (branches test next l.from (drop l.from es))) ≡ all_fit l.fn.room (branches test next 0 es)
