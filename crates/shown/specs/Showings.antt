-- What a contract sees of a showing.
use Rattle.std.specs.Prelude.{◌≡◌, ◌<◌, ℕ, List, None, Option, Some, refl}
use Rattle.std.specs.Coded.{Coded, code_by, coded×, coded_list, coded_option, coded_ℕ}
use Rattle.std.specs.Io.KnownBytes.{Appends}
use Rattle.term.specs.Specs.{Specified, specified_code}
use Rattle.history.specs.declared.entry.Entry.{Entry}
use Rattle.history.specs.contracts.entry.Entry as entry_type
use Rattle.shown.specs.declared.options.Options.{Options}
use Rattle.shown.specs.contracts.options.Options as options_type
use Rattle.shown.specs.declared.error.ShowError.{ShowError}
use Rattle.shown.specs.declared.error.ShowError.TheVariants.{Output}
use Rattle.shown.specs.contracts.error.ShowError as error_type

-- A showing: what is wanted of the history, the specification, once there was an entry, the entries that were shown, what was written of
-- their text, the output as it was when the showing began, and why an entry wasn't shown, where one wasn't.
pub record Begun (W : Type 0) : Type 0 where
  pub options : Options
  pub spec : Option Specified
  pub history : List Entry
  pub written : List ℕ
  pub began : W
  pub fault : Option ShowError

abbrev pub begun_code : {W : Type 0} → Coded W → Coded (Begun W)
begun_code {W} w =
    code_by (Options × (Option Specified × (List Entry × (List ℕ × (W × Option ShowError)))))
    (coded× options_type.the_row.coded (coded× (coded_option specified_code) (coded× (coded_list entry_type.the_row.coded) (coded× (coded_list coded_ℕ) (coded× w (coded_option error_type.the_row.coded))))))
    (λ s. (s.options, (s.spec, (s.history, (s.written, (s.began, s.fault))))))
    (λ p. record { options = p.0; spec = p.1.0; history = p.1.1.0; written = p.1.1.1.0; began = p.1.1.1.1.0; fault = p.1.1.1.1.1 }) (λ _. refl)

-- All entries of this history were shown, of this specification, and what was written of their text is what the output took since the showing
-- began.
pub record HasWritten {W : Type 0} (contents : W → Option (List ℕ)) (failures : W → ℕ) (s : Begun W) (w : W) (spec : Specified) (h : List Entry) : Type 0 where
  pub spec_is : (known : Specified) → s.spec ≡ Some known → known ≡ spec
  pub history_is : s.history ≡ h
  pub appends : Appends (contents s.began) (contents w) s.written
  pub steady : failures w ≡ failures s.began

-- The showing has seen the entries of this history, of this specification: it has shown them all, or has a fault. It is for the output alone only
-- where that failed.
pub record HasShown {W : Type 0} (contents : W → Option (List ℕ)) (failures : W → ℕ) (s : Begun W) (w : W) (spec : Specified) (h : List Entry) : Type 0 where
  pub sound : s.fault ≡ None → HasWritten contents failures s w spec h
  pub failed : s.fault ≡ Some Output → failures s.began < failures w
