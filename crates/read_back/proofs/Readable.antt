-- What a printed body is read in, and what it stands for there.
use Rattle.std.specs.Prelude.{◌≡◌, ℕ, ◌<◌, ◌≤◌, pos, negsuc, length, [], true, Some, None}
use Rattle.alphabet.specs.Elements.{In}
use Rattle.alphabet.specs.Channels.{FieldValue, number, constant, Values, Channel, IsAlphabet}
use Rattle.term.specs.Proc as procs
use Rattle.term.specs.Proc.{Proc}
use Rattle.term.specs.Specs.{SetInSigma, PairsInSigma}
use Rattle.term.specs.Traces.{Pairs}
use Rattle.values.specs.Worths.{one}
use Rattle.values.specs.Names.{is_process}
use Rattle.event_phrases.specs.Events.{in_order}
use Rattle.denotation.specs.Bodies.{Body, stop, skip, prefix, ext, int, seq, par, hide, ren, intr, name}
use Rattle.event_phrases.specs.Scopes.{Scope}
use Rattle.printing.specs.Printed.{reference}

-- the body with the names that print gives: those of definitions, with so many primes
abbrev pub referred : ℕ → Proc → Body
referred primes procs.stop = stop
referred primes procs.skip = skip
referred primes (procs.prefix a P) = prefix a (referred primes P)
referred primes (procs.ext P Q) = ext (referred primes P) (referred primes Q)
referred primes (procs.int P Q) = int (referred primes P) (referred primes Q)
referred primes (procs.seq P Q) = seq (referred primes P) (referred primes Q)
referred primes (procs.par A P Q) = par A (referred primes P) (referred primes Q)
referred primes (procs.hide A P) = hide A (referred primes P)
referred primes (procs.ren R P) = ren R (referred primes P)
referred primes (procs.intr P Q) = intr (referred primes P) (referred primes Q)
referred primes (procs.name k) = name (reference primes k, [])

-- a value that the text of a script can give: a number from -1,000,000 to 1,000,000, or a constant that stands for itself
abbrev pub IsGiven : Scope → FieldValue → Type 0
IsGiven s (number (pos n)) = n ≤ 1000000
IsGiven s (number (negsuc n)) = n < 1000000
IsGiven s (constant n) = s.known n ≡ Some (one (constant n))

-- The scope is one of a script that declares these channels, their constants, and so many bodies, whose names have so many primes.
pub record IsPrintedScope (s : Scope) (primes m : ℕ) : Type 0 where
  pub sound : IsAlphabet s.channels
  -- no channel's name stands for a value
  pub apart : (c : Channel) → In c s.channels → s.known c.name ≡ None
  -- each value of a field is given by its text
  pub given : (c : Channel) (vs : Values) (v : FieldValue) → In c s.channels → In vs c.fields → In v vs → IsGiven s v
  -- the bodies are processes
  pub unknown : (k : ℕ) → k < m → s.known (reference primes k) ≡ None
  pub defined : (k : ℕ) → k < m → is_process s.entries (reference primes k) ≡ true

-- A renaming as scripts make it: its pairs lie in Sigma, which has n events, it has one at least, and they are in order and none twice.
pub record IsRenaming (n : ℕ) (R : Pairs) : Type 0 where
  pub lies : PairsInSigma n R
  pub some : 0 < length R
  pub ordered : in_order n R ≡ R

-- A process that has a text: each event, set and pair lies in Sigma, which has n events, and each name is that of one of m bodies;
-- each renaming is one that scripts make.
abbrev pub IsWritten : ℕ → ℕ → Proc → Type 0
IsWritten n m procs.stop = Unit {0}
IsWritten n m procs.skip = Unit {0}
IsWritten n m (procs.prefix a P) = (a < n) × IsWritten n m P
IsWritten n m (procs.ext P Q) = IsWritten n m P × IsWritten n m Q
IsWritten n m (procs.int P Q) = IsWritten n m P × IsWritten n m Q
IsWritten n m (procs.seq P Q) = IsWritten n m P × IsWritten n m Q
IsWritten n m (procs.par A P Q) = SetInSigma n A × IsWritten n m P × IsWritten n m Q
IsWritten n m (procs.hide A P) = SetInSigma n A × IsWritten n m P
IsWritten n m (procs.ren R P) = IsRenaming n R × IsWritten n m P
IsWritten n m (procs.intr P Q) = IsWritten n m P × IsWritten n m Q
IsWritten n m (procs.name k) = k < m
