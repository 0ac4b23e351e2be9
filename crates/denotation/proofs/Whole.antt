-- What a script denotes is what it declares, with the bodies of what is reached.
use Rattle.std.proofs.Common.{List}
use Rattle.alphabet.specs.Channels.{Channel}
use Rattle.term.specs.Proc.{Proc}
use Rattle.term.specs.declared.names.Names.{Names}
use Rattle.syntax.specs.Grammar.{Syntax}
use Rattle.values.specs.Worths.{Known}
use Rattle.values.specs.Names.{Entry}
use Rattle.values.specs.Channels.{Declares}
use Rattle.event_phrases.specs.Events.{KnownEvents, EventsStand}
use Rattle.event_phrases.specs.Scopes.{Scope}
use Rattle.denotation.specs.Denotes.{Root, root_key, body_under, Denotes, Gathered}

module _ (t : Syntax) (root : Root) (es : List Entry) (known : Known) (cs : List Channel) (sets : KnownEvents) (d : Declares t es known cs) (e : EventsStand cs known es sets) where
  abbrev here : Scope
  here = record { entries = es; channels = cs; known = known; sets = sets }

  pub denotes_from : (ps : List Proc) (names : Names) → Gathered (body_under root here) (root_key root) ps → Denotes t root (record { alphabet = cs; bodies = ps; names = names })
  denotes_from ps names g = record { entries = es; known = known; sets = sets; declares = d; events = e; keys = g.keys; bodies = g.bodies; reached = g.reached; numbers = g.numbers; deep = g.deep; large = g.large }
