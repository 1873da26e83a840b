-- The command line of calq, as clap reads it: `calq MODEL SQL [--budget N]`, N from 1 to 20,000.
use Rattle.std.specs.Prelude.{◌≢◌, ◌≤◌, ℕ, true, List, [], ◌∷◌, map, codes, Option, Some, None, encode_utf8_all, unwrap_or}
use Rattle.std.specs.Option.{option_map_or}
use Rattle.std.specs.Str.{chars}
use Rattle.std.specs.Str.Parse.{digits_value, without_leading_plus}
use Rattle.clap.specs.Faults.{fault_of}
use Rattle.clap.specs.Kinds.{Kinds}
use Rattle.clap.specs.Simple.{App, Shape, new_shape, new_rule, with_rule, matches_of}
use Rattle.clap.specs.Walk.{Rule, Row, first_of}
use Rattle.clap.specs.declared.builder.action.ArgAction.TheVariants.{Set}
use Rattle.clap.specs.declared.builder.value_parser.ValueParser.TheVariants.{Unsigned}
use Rattle.cal_value.specs.declared.limits.TheConstants.{BUDGET_LIMIT}
use Rattle.command_line.specs.declared.reading.Asked.{Asked}
use Rattle.command_line.specs.declared.reading.TheConstants.{BUDGET_DEFAULT}

-- one word, which has to be there
abbrev pub word_rule : List ℕ → Rule
word_rule id = record (new_rule id) { required = true; action = Some Set }

abbrev pub budget_rule : Rule
budget_rule = record (new_rule (codes "budget")) { long = Some (codes "budget"); action = Some Set; parser = Some (Unsigned 1 BUDGET_LIMIT) }

-- the words are those after the program's name, and there is no flag for help
abbrev pub bare_shape : Shape
bare_shape = record (new_shape (codes "calq")) { no_binary_name = true; disable_help_flag = true }

abbrev pub calq : App
calq = with_rule (with_rule (with_rule (record { top = bare_shape; subs = [] }) (word_rule (codes "MODEL"))) (word_rule (codes "SQL"))) budget_rule

-- the number that a text writes in decimal digits; a plus may stand before them
abbrev pub number_of : List ℕ → ℕ
number_of text = digits_value 10 (without_leading_plus text)

-- the number that was given, or the default where none was
abbrev pub budget_of : Option (List ℕ) → ℕ
budget_of given = option_map_or number_of given BUDGET_DEFAULT

abbrev pub IsBudget : ℕ → Type 0
IsBudget n = (1 ≤ n) × (n ≤ BUDGET_LIMIT)

-- Both words have to be there, so clap gives a fault where one is missing, and the empty text stands for none here.
abbrev pub asked : Option (List ℕ) → Option (List ℕ) → Option (List ℕ) → Asked
asked model sql budget = record { model = chars (unwrap_or model []); sql = chars (unwrap_or sql []); budget = budget_of budget }

abbrev pub in_matches : List Row → Asked
in_matches rows = asked (first_of (codes "MODEL") rows) (first_of (codes "SQL") rows) (first_of (codes "budget") rows)

-- nothing where there is a fault
abbrev pub without_fault : Kinds → Asked → Option Asked
without_fault [] found = Some found
without_fault (kind ∷ kinds) found = None

abbrev pub reading_of : List (List ℕ) → Option Asked
reading_of texts = without_fault (fault_of calq texts) (in_matches (matches_of calq texts))

-- clap gives a fault for these words
abbrev pub IsFaulty : List (List ℕ) → Type 0
IsFaulty words = fault_of calq (map encode_utf8_all words) ≢ []

-- what the words ask, where clap gives matches for them
abbrev pub reading : List (List ℕ) → Option Asked
reading words = reading_of (map encode_utf8_all words)
