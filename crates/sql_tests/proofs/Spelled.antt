-- A checked SELECT that a text spells can be translated.
use Rattle.std.proofs.Common.{◌≡◌, ℕ, List, sym, subst}
use Rattle.cal_schema.specs.declared.schema.Schema.{Schema}
use Rattle.sql_text.specs.declared.token.Token.{Token}
use Rattle.sql_tree.specs.declared.select.Select.{Select}
use Rattle.sql_tree.specs.declared.statement.Statement.{Statement}
use Rattle.sql_parser.specs.Grammar.{Spells}
use Rattle.sql_algebra.specs.Formed.{IsFormed}
use Rattle.sql_validator.specs.Checked.{IsChecked, IsCheckedStatement}
use Rattle.sql_validator.specs.declared.checked.Checked.{Checked}
use Rattle.sql_validator.specs.declared.checked.Checked.TheVariants as checked
use Rattle.session_lane.specs.Statements.{IsFormedStatement}
use Rattle.session_lane.proofs.Spelled.{spelled-formed}
use Rattle.sql_tests.specs.Ready.{IsReady}

pub spelled-ready : (schema : Schema) (tokens : List Token) (s : Statement) (made : Checked) → Spells tokens s → IsCheckedStatement schema s made → IsReady schema made
spelled-ready schema tokens s (checked.Select made) spelled h =
    let formed : IsFormedStatement s = spelled-formed tokens s spelled in (
      let F : Select → Type 0 = λ q. IsFormed q in subst F (sym h.2.kept) (subst IsFormedStatement h.1 formed),
      record { before = 0; checked = (let C : Select → Type 0 = λ q. IsChecked schema 0 q made in subst C (sym h.2.kept) h.2) },
    )
spelled-ready schema tokens s (checked.ExplainPlan made) spelled h = tt
spelled-ready schema tokens s (checked.ExplainMemo made) spelled h = tt
spelled-ready schema tokens s (checked.Insert table rows) spelled h = tt
spelled-ready schema tokens s (checked.Refresh table) spelled h = tt

pub ruleset ready_rules = (spelled-ready)
