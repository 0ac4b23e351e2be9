-- What is known of a script in memory as plain values.
use Rattle.values.specs.Values.{Name}
use Rattle.values.specs.Tables.{table}
use Rattle.declared_names.specs.View.{entries}
use Rattle.event_phrases.specs.Scopes.{Scope}
use Rattle.script.specs.declared.names.Names.{Names}
use Rattle.script.specs.declared.script.Script.{Script}
use Rattle.script.specs.Standing.{KnownSets, events_by, AreReached, IsSettled}
use Rattle.script.specs.Tables.{said}

-- these names, where the names of sets of events mean this
abbrev pub scope_with : {A : Type 0} → Names A → KnownSets → Scope
scope_with n f = record { entries = entries n.entries; channels = n.sigma.alphabet; known = table n.known; sets = events_by f }

abbrev pub scope : {A : Type 0} → Script A → Scope
scope s = scope_with s.names.now (said s.sets.now)

-- what is found of named sets of events, where these names are known
abbrev pub AreReachedBy : {A : Type 0} → Names A → KnownSets → Type 0
AreReachedBy n = AreReached n.sigma.alphabet (table n.known) (entries n.entries)

-- the definition of this name says no more than these sets do
abbrev pub IsSettledBy : {A : Type 0} → Names A → KnownSets → Name → Type 0
IsSettledBy n = IsSettled n.sigma.alphabet (table n.known) (entries n.entries)
