-- A SELECT that tokens spell has an entry of FROM, before which nothing stands, and an item.
use Rattle.std.proofs.Common.{◌≡◌, ℕ, true, refl, arith, List, ◌∷◌}
use Rattle.std.proofs.lemmas.Bool.Decides.{nat_tests}
use Rattle.sql_text.specs.declared.token.Token.{Token}
use Rattle.sql_tree.specs.declared.select.FromEntry.{FromEntry}
use Rattle.sql_tree.specs.declared.select.Item.{Item}
use Rattle.sql_tree.specs.declared.select.Items.{Items}
use Rattle.sql_tree.specs.declared.select.Items.TheVariants.{Listed}
use Rattle.sql_tree.specs.declared.select.How.TheVariants as how
use Rattle.sql_tree.specs.declared.select.Select.{Select}
use Rattle.sql_tree.specs.declared.statement.Statement.{Statement}
use Rattle.sql_parser.specs.Answers.{IsStatement}
use Rattle.sql_parser.specs.Grammar.{Separated, last, comma, IsItem, AreItems, star, items, IsEntry, entry, IsFrom, from, IsSelect, select, IsBody, query, explain_plan, explain_memo, insert, refresh, create_tile, drop_tile, choose_tiles, Spells, body, ended}
use Rattle.sql_algebra.specs.Formed.{IsFormed, begins_first, has_items}
use Rattle.session_lane.specs.Statements.{IsFormedStatement}

some-items : (x : Item) (xs : List Item) → has_items (Listed (x ∷ xs)) ≡ true
some-items x xs = grind (arith, nat_tests)

listed-some : (p : ℕ) (ts : List Token) (xs : List Item) → Separated IsItem p ts xs → has_items (Listed xs) ≡ true
listed-some _ _ _ (last x) = refl
listed-some _ _ _ (comma {x = x} {xs = xs} h more) = some-items x xs

items-some : (p : ℕ) (ts : List Token) (i : Items) → AreItems p ts i → has_items i ≡ true
items-some _ _ _ star = refl
items-some _ _ _ (items {p} {ts} {xs} h) = listed-some p ts xs h

entry-first : (ts : List Token) (e : FromEntry) (es : List FromEntry) → IsEntry how.First ts e → begins_first (e ∷ es) ≡ true
entry-first _ _ es (entry t a) = refl

from-first : (p : ℕ) (ts : List Token) (f : List FromEntry) → IsFrom p ts f → begins_first f ≡ true
from-first _ _ _ (from {ts = ts} {e = e} {es = es} h joins) = entry-first ts e es h

select-formed : (p : ℕ) (ts : List Token) (q : Select) → IsSelect p ts q → IsFormed q
select-formed _ _ _ (select {p} {ds} {is} {fs} {i = i} {f = f} d it fr w g h o) = record { from = from-first _ fs f fr; items = items-some _ is i it }

body-formed : (ts : List Token) (s : Statement) → IsBody ts s → IsFormedStatement s
body-formed _ _ (query {ts} {q} h) = select-formed 0 ts q h
body-formed _ _ (explain_plan h) = select-formed _ _ _ h
body-formed _ _ (explain_memo h) = select-formed _ _ _ h
body-formed _ _ (insert t rows) = tt
body-formed _ _ (refresh t) = tt
body-formed _ _ (create_tile t) = tt
body-formed _ _ (drop_tile t) = tt
body-formed _ _ (choose_tiles t a b) = tt

pub spelled-formed : (ts : List Token) (s : Statement) → Spells ts s → IsFormedStatement s
spelled-formed _ _ (body {ts} {x} h) = body-formed ts x h
spelled-formed _ _ (ended {ts} {x} h) = body-formed ts x h

pub statement-formed : (text : List ℕ) (s : Statement) → IsStatement text s → IsFormedStatement s
statement-formed text s h = spelled-formed h.tokens s h.spelled
