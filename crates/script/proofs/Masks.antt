-- Stored sets of events are those that names stand for.
use Rattle.std.proofs.Common.{◌≡◌, List, Option, Some, None, sym, ap, ◌∙◌}
use Rattle.std.specs.Option.{option_map}
use Rattle.alphabet.specs.Channels.{Channel}
use Rattle.alphabet.specs.EventSets.{Set, has}
use Rattle.values.specs.Values.{Name}
use Rattle.event_phrases.specs.Events.{set_of, masked}
use Rattle.script.specs.Standing.{KnownSets, events_by}

abbrev some_set : Set → Option Set
some_set S = Some S

pub stored : (cs : List Channel) (f : KnownSets) (n : Name) (o : Option Set) → o ≡ f n → ((n : Name) (S : Set) → f n ≡ Some S → S ≡ set_of cs (has S)) → o ≡ masked cs (events_by f n)
unfolding masked
stored cs f n None h lie = sym (ap (λ o. masked cs (option_map has o)) (sym h))
stored cs f n (Some S) h lie = ap some_set (lie n S (sym h)) ∙ sym (ap (λ o. masked cs (option_map has o)) (sym h))
