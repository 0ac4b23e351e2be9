-- Phrases for processes in memory as plain values.
use Rattle.std.specs.Prelude.{Option, Some, None}
use Rattle.std.specs.Borrow.{Bor}
use Rattle.syntax.specs.Parsing.{syntaxes}
use Rattle.syntax.specs.View.{shape, shapes}
use Rattle.syntax.specs.declared.tree.Tree.{Tree}
use Rattle.denotation.specs.declared.forms.Between.{Between as HeldBetween}
use Rattle.denotation.specs.declared.forms.Between.TheVariants as betweens
use Rattle.denotation.specs.declared.forms.Phrase.{Phrase as Held}
use Rattle.denotation.specs.declared.forms.Phrase.TheVariants as phrases
use Rattle.denotation.specs.Phrases.{Between, with_join, with_set, with_sets, Phrase, stops, skips, called, hiding, renaming, conditional, inside, prefixed, joined, calling, replicated, phrase_of}

abbrev pub plain_between : {A : Type 0} → HeldBetween A → Between
plain_between (betweens.Join j) = with_join j
plain_between (betweens.Sharing a) = with_set (shape a.now)
plain_between (betweens.Alphabetised a b) = with_sets (shape a.now) (shape b.now)

-- what a condition without `else` chooses then
abbrev pub or_stops : {A : Type 0} → Option (Bor (Tree A)) → Phrase
or_stops None = stops
or_stops (Some t) = phrase_of (shape t.now)

abbrev pub plain : {A : Type 0} → Held A → Phrase
plain phrases.Stop = stops
plain (phrases.Inside t) = inside (phrase_of (shape t.now))
plain (phrases.Prefix e t) = prefixed (shape e.now) (phrase_of (shape t.now))
plain (phrases.Joined m t u) = joined (plain_between m) (phrase_of (shape t.now)) (phrase_of (shape u.now))
plain phrases.Skip = skips
plain (phrases.Called n) = called n.now
plain (phrases.Hiding t a) = hiding (phrase_of (shape t.now)) (shape a.now)
plain (phrases.Renaming t ts) = renaming (phrase_of (shape t.now)) (syntaxes (shapes ts.now))
plain (phrases.Conditional c t u) = conditional (shape c.now) (phrase_of (shape t.now)) (or_stops u)
plain (phrases.Calling n ts) = calling n.now (shapes ts.now)
plain (phrases.Replicated j gs t) = replicated j (shapes gs.now) (phrase_of (shape t.now))
