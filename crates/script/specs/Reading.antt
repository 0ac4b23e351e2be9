-- The specification as which a text is read.
use Rattle.std.specs.Prelude.{ℕ, List}
use Rattle.alphabet.specs.Channels.{Channel}
use Rattle.term.specs.Proc.{Proc}
use Rattle.term.specs.Specs.{Specified}
use Rattle.syntax.specs.Grammar.{Syntax}
use Rattle.syntax.specs.Script.{HasPhrase, HasTree}
use Rattle.values.specs.Worths.{Known}
use Rattle.values.specs.Names.{Entry}
use Rattle.event_phrases.specs.Events.{KnownEvents, EventsStand}
use Rattle.denotation.specs.Denotes.{Root, root_of, root_key, body_under, Denotes, Gathered}

-- These are the bodies of what is reached from the root, where a script declares this.
pub record AreBodies (channels : List Channel) (known : Known) (entries : List Entry) (root : Root) (bodies : List Proc) : Type 0 where
  pub sets : KnownEvents
  pub events : EventsStand channels known entries sets
  pub gathered : Gathered (body_under root (record { entries = entries; channels = channels; known = known; sets = sets })) (root_key root) bodies

-- The text has a tree that denotes the alphabet and the bodies of the specification for the root, a text that is a phrase.
pub record IsRead (text root : List ℕ) (spec : Specified) : Type 0 where
  pub tree : Syntax
  pub reads : HasTree text tree
  pub phrase : Syntax
  pub written : HasPhrase root phrase
  pub denotes : Denotes tree (root_of phrase) spec
