-- What a reader of bytes has left.
use Rattle.std.specs.Prelude.{◌≡◌, ℕ, ◌+◌, Bool, true, false, List, [], ◌∷◌, length, Option, Some, None, IsSome}
use Rattle.std.specs.Borrow.{Bor}
use Rattle.csv.specs.Reading.{Ready, default_config, is_flexible, reader_config, reader_state, reader_trim, records_from, source_of}
use Rattle.csv.specs.declared.parser.State.{State}
use Rattle.csv.specs.declared.reader.Reader.{Reader}
use Rattle.csv.specs.declared.reader.Trim.TheVariants as trim

abbrev pub bytes_left : Reader (Bor (List ℕ)) → Option (List ℕ)
bytes_left reader = source_of (λ bytes. Some bytes.now) reader

-- the records of the bytes from a state on
abbrev pub left_in : Option (List ℕ) → State → List (List (List ℕ))
left_in None state = []
left_in (Some bytes) state = records_from default_config (length bytes + 1) state bytes

-- the records that a reader has left
unfoldable pub left_of : Reader (Bor (List ℕ)) → List (List (List ℕ))
left_of reader = left_in (bytes_left reader) (reader_state reader)

-- default settings, no header record, any number of fields
pub record IsPlain (reader : Reader (Bor (List ℕ))) : Type 0 where
  pub config : reader_config reader ≡ default_config
  pub untrimmed : reader_trim reader ≡ trim.None
  pub flexible : is_flexible reader ≡ true
  pub ready : Ready reader
  pub known : IsSome (bytes_left reader)

-- a read gives the first of the records that are left, where there is one
abbrev pub IsNext : List (List (List ℕ)) → Bool → List (List ℕ) → List (List (List ℕ)) → Type 0
IsNext [] found fields rest = found ≡ false
IsNext (r ∷ rs) found fields rest = (found ≡ true) × (fields ≡ r) × (rest ≡ rs)
