-- What is spelled as a SELECT is read.
use Rattle.std.proofs.Common.{◌≡◌, ℕ, zero, suc, ◌+◌, ◌<◌, ◌≤◌, Bool, true, false, if◌then◌else◌, List, [], ◌∷◌, ◌++◌, length, Option, Some, None, refl, sym, ap, subst, ◌∙◌, arith, append_assoc, append-nil, length-append}
use Rattle.std.proofs.Math.Dec.{leb-zero}
use Rattle.sql_text.specs.declared.token.Token.{Token}
use Rattle.sql_text.specs.declared.token.Token.TheVariants.{Name, Word, Number, Text, Symbol}
use Rattle.sql_text.specs.declared.token.Reserved.{Reserved}
use Rattle.sql_text.specs.declared.token.Reserved.TheVariants as w
use Rattle.sql_text.specs.declared.token.Symbol.TheVariants as s
use Rattle.sql_tree.specs.declared.tree.Tree.{Tree}
use Rattle.sql_tree.specs.declared.tree.ColumnName.{ColumnName}
use Rattle.sql_tree.specs.declared.select.Item.{Item}
use Rattle.sql_tree.specs.declared.select.Items.{Items}
use Rattle.sql_tree.specs.declared.select.Cond.{Cond}
use Rattle.sql_tree.specs.declared.select.UsingName.{UsingName}
use Rattle.sql_tree.specs.declared.select.Cond.TheVariants.{On, Using}
use Rattle.sql_tree.specs.declared.select.How.TheVariants as how
use Rattle.sql_tree.specs.declared.select.FromEntry.{FromEntry}
use Rattle.sql_tree.specs.declared.select.KeyBy.{KeyBy}
use Rattle.sql_tree.specs.declared.select.OrderKey.{OrderKey}
use Rattle.sql_tree.specs.declared.select.Select.{Select}
use Rattle.sql_parser.specs.declared.select.JoinKind.{JoinKind}
use Rattle.sql_parser.specs.declared.select.JoinKind.TheVariants as kind
use Rattle.sql_expressions.specs.Input.{Input, next, number, begins, is_word, same_word, same_symbol, sees_word, sees_symbol, sees_number, after_word, after_symbol, expect_word, expect_symbol, by_token}
use Rattle.sql_expressions.specs.Reading.{column, expression}
use Rattle.sql_parser.specs.ReadingList.{separated, using_name}
use Rattle.sql_parser.specs.ReadingSelect as reading
use Rattle.sql_parser.specs.Grammar as grammar
use Rattle.sql_expressions.specs.Grammar.{plain, qualified, IsExpr}
use Rattle.sql_parser.specs.Grammar.{Separated, last, comma, IsTable, IsAlias, no_alias, as_alias, IsItem, item, AreItems, star, items, IsEntry, entry, IsUsingName, IsCond, on, using, IsJoin, comma_entry, cross_join, join, inner_join, left_join, left_outer_join, AreJoins, no_joins, joins, IsClause, no_clause, clause, IsColumnAt, AreGroups, no_groups, groups, IsKeyBy, by_number, by_column, IsDirection, no_direction, asc, desc, IsNulls, no_nulls, nulls_first, nulls_last, IsKey, key, AreKeys, no_keys, keys, IsDistinct, all_rows, distinct, IsFrom, from, IsSelect, select}
use Rattle.sql_expressions.proofs.Steps.{at, same_self}
use Rattle.sql_expressions.proofs.Room.{Room, room-left, room-tail, room-behind}
use Rattle.sql_expressions.proofs.Follow.{Opens, expr-opens, before, no_star, no_distinct}
use Rattle.sql_expressions.proofs.Complete.{expr-reads, column-reads}
use Rattle.sql_parser.proofs.CompleteList.{word_stage, first_stage, past_expression, past_column, past_word, separated-reads, table-reads, alias-reads, using_name-reads}

-- ---- what a part begins with

alias-stage : {us : List Token} {a : Option (List ℕ)} → IsAlias us a → (rest : List Token) → first_stage rest < 16 → first_stage (us ++ rest) < 16
alias-stage no_alias rest h = h
alias-stage (grammar.alias) rest h = omega arith
alias-stage as_alias rest h = omega arith

cond-stage : {p : ℕ} {ts : List Token} {c : Cond} → IsCond p ts c → (rest : List Token) → first_stage (ts ++ rest) < 15
cond-stage (on d) rest = omega arith
cond-stage (using d) rest = omega arith

join-stage : {p : ℕ} {ts : List Token} {e : FromEntry} → IsJoin p ts e → (rest : List Token) → first_stage (ts ++ rest) < 10
join-stage (comma_entry d) rest = omega arith
join-stage (cross_join d) rest = omega arith
join-stage (join d c) rest = omega arith
join-stage (inner_join d c) rest = omega arith
join-stage (left_join d c) rest = omega arith
join-stage (left_outer_join d c) rest = omega arith

joins-stage : {p : ℕ} {ts : List Token} {es : List FromEntry} → AreJoins p ts es → (rest : List Token) → first_stage rest < 7 → first_stage (ts ++ rest) < 10
joins-stage no_joins rest h = omega arith
joins-stage (joins {ts = ts} {us = us} d ds) rest h = subst (λ l. first_stage l < 10) (sym (append_assoc ts us rest)) (join-stage d (us ++ rest))

clause-stage : {word : Reserved} {p : ℕ} {ts : List Token} {t : Option Tree} → IsClause word p ts t → (rest : List Token) → first_stage rest < word_stage word
    → first_stage (ts ++ rest) < word_stage word + 1
clause-stage no_clause rest h = omega arith
clause-stage (clause d) rest h = omega arith

groups-stage : {p : ℕ} {ts : List Token} {cs : List ColumnName} → AreGroups p ts cs → (rest : List Token) → first_stage rest < 5 → first_stage (ts ++ rest) < 6
groups-stage no_groups rest h = omega arith
groups-stage (groups d) rest h = omega arith

keys-stage : {p : ℕ} {ts : List Token} {ks : List OrderKey} → AreKeys p ts ks → (rest : List Token) → first_stage rest < 3 → first_stage (ts ++ rest) < 4
keys-stage no_keys rest h = omega arith
keys-stage (keys d) rest h = omega arith

from-stage : {p : ℕ} {ts : List Token} {es : List FromEntry} → IsFrom p ts es → (rest : List Token) → first_stage (ts ++ rest) < 9
from-stage (from d e) rest = omega arith

direction-stage : {us : List Token} {d : Bool} → IsDirection us d → (rest : List Token) → first_stage rest < 13 → first_stage (us ++ rest) < 13
direction-stage no_direction rest h = h
direction-stage asc rest h = omega arith
direction-stage desc rest h = omega arith

nulls-stage : {d n : Bool} {vs : List Token} → IsNulls d vs n → (rest : List Token) → first_stage rest < 12 → first_stage (vs ++ rest) < 12
nulls-stage no_nulls rest h = h
nulls-stage nulls_first rest h = omega arith
nulls-stage nulls_last rest h = omega arith

item-opens : {p : ℕ} {ts : List Token} {x : Item} → IsItem p ts x → Opens 3 ts
item-opens (item d f) = before 3 _ _ (expr-opens d)

listed-opens : {p : ℕ} {ts : List Token} {xs : List Item} → Separated IsItem p ts xs → Opens 3 ts
listed-opens (last d) = item-opens d
listed-opens (comma d ds) = before 3 _ _ (item-opens d)

items-open : {p : ℕ} {ts : List Token} {x : Items} → AreItems p ts x → (rest : List Token) → begins (is_word w.Distinct) (ts ++ rest) ≡ false
items-open star rest = refl
items-open (items {ts = ts} d) rest = let o = listed-opens d in no_distinct (ts ++ rest) (o.some rest)

distinct-reads : {ds : List Token} {d : Bool} → IsDistinct ds d → (p : ℕ) (rest : List Token) → begins (is_word w.Distinct) rest ≡ false
    → (sees_word w.Distinct (at p (ds ++ rest)) ≡ d) × (after_word w.Distinct (at p (ds ++ rest)) ≡ at (p + length ds) rest)
unfolding after_word sees_word same_word next
distinct-reads all_rows p rest h = let none : p ≡ p + 0 = omega arith in (h, ap (λ b. if b then next (at p rest) else at p rest) h ∙ ap (λ q. at q rest) none)
distinct-reads distinct p rest h = (refl, refl)

-- ---- parts without expressions

column_at-reads : (p : ℕ) (ts : List Token) (c : ColumnName) → IsColumnAt p ts c → (rest : List Token) → first_stage rest < 30
    → column (at p (ts ++ rest)) ≡ Some (c, at (p + length ts) rest)
column_at-reads p ts c d rest h = column-reads d p rest (past_column rest h)

abbrev Any : List Token → Type 0
Any ts = Unit {0}

pub columns-read : {p : ℕ} {ts : List Token} {cs : List ColumnName} → Separated IsColumnAt p ts cs → (rest : List Token) → first_stage rest < 9
    → separated column (at p (ts ++ rest)) ≡ Some (cs, at (p + length ts) rest)
columns-read d rest h =
    separated-reads column IsColumnAt Any (λ ts us g. tt) (λ ts us g. tt) 30 (omega arith) (λ p ts c d g rest h. column_at-reads p ts c d rest h) d tt rest h

names-read : {p : ℕ} {ts : List Token} {ns : List UsingName} → Separated IsUsingName p ts ns → (rest : List Token) → first_stage rest < 9
    → separated using_name (at p (ts ++ rest)) ≡ Some (ns, at (p + length ts) rest)
names-read d rest h =
    separated-reads using_name IsUsingName Any (λ ts us g. tt) (λ ts us g. tt) 30 (omega arith) (λ p ts n d g rest h. using_name-reads p ts n d rest) d tt rest h

using-reads : (p : ℕ) {ts : List Token} {ns : List UsingName} → Separated IsUsingName (p + 2) ts ns → (rest : List Token)
    → reading.using (at p (Word w.Using ∷ Symbol s.Open ∷ ts ++ (Symbol s.Close ∷ rest))) ≡ Some (Using ns, at (p + 2 + length ts + 1) rest)
unfolding reading.using expect_word expect_symbol sees_word sees_symbol same_word same_symbol next
using-reads p {ts = ts} {ns = ns} d rest =
    let start : p + 1 + 1 ≡ p + 2 = omega arith in
    rw (start, names-read d (Symbol s.Close ∷ rest) (omega arith)) refl

groups-read : {p : ℕ} {ts : List Token} {cs : List ColumnName} → AreGroups p ts cs → (rest : List Token) → first_stage rest < 5
    → reading.groups (at p (ts ++ rest)) ≡ Some (cs, at (p + length ts) rest)
unfolding reading.groups expect_word after_word sees_word same_word next
groups-read (no_groups {p = p}) rest h = let none : p ≡ p + 0 = omega arith in rw (past_word w.Group rest h) (ap (λ q. Some ([], at q rest)) none)
groups-read (groups {p = p} {ts = ts} {cs = cs} d) rest h =
    let start : p + 1 + 1 ≡ p + 2 = omega arith in
    let end : p + 2 + length ts ≡ p + length (Word w.Group ∷ Word w.By ∷ ts) = omega arith in
    rw start (columns-read d rest (omega arith) ∙ ap (λ q. Some (cs, at q rest)) end)

key_by-reads : {ts : List Token} {b : KeyBy} → IsKeyBy ts b → (p : ℕ) (rest : List Token) → first_stage rest < 30
    → reading.key_by (at p (ts ++ rest)) ≡ Some (b, at (p + length ts) rest)
unfolding reading.key_by sees_number number by_token next
key_by-reads (by_number {n = n}) p rest h = rw (leb-zero n) refl
key_by-reads (by_column (plain {n = n})) p rest h = rw (column_at-reads p (Name n ∷ []) _ plain rest h) refl
key_by-reads (by_column (qualified {a = a} {n = n})) p rest h = rw (column_at-reads p (Name a ∷ Symbol s.Dot ∷ Name n ∷ []) _ qualified rest h) refl

direction-reads : {us : List Token} {d : Bool} → IsDirection us d → (p : ℕ) (rest : List Token) → first_stage rest < 12
    → reading.direction (at p (us ++ rest)) ≡ Some (d, at (p + length us) rest)
unfolding reading.direction after_word sees_word same_word next
direction-reads no_direction p rest h =
    let none : p ≡ p + 0 = omega arith in rw (past_word w.Desc rest h, past_word w.Asc rest h) (ap (λ q. Some (false, at q rest)) none)
direction-reads asc p rest h = refl
direction-reads desc p rest h = refl

nulls-read : {d n : Bool} {vs : List Token} → IsNulls d vs n → (p : ℕ) (rest : List Token) → first_stage rest < 11
    → reading.nulls d (at p (vs ++ rest)) ≡ Some (n, at (p + length vs) rest)
unfolding reading.nulls reading.first_or_last expect_word after_word sees_word same_word next
nulls-read {d = d} no_nulls p rest h = let none : p ≡ p + 0 = omega arith in rw (past_word w.Nulls rest h) (ap (λ q. Some (d, at q rest)) none)
nulls-read nulls_first p rest h = let end : p + 1 + 1 ≡ p + 2 = omega arith in ap (λ q. Some (true, at q rest)) end
nulls-read nulls_last p rest h = let end : p + 1 + 1 ≡ p + 2 = omega arith in ap (λ q. Some (false, at q rest)) end

key-reads : (p : ℕ) (ts : List Token) (k : OrderKey) → IsKey p ts k → (rest : List Token) → first_stage rest < 11
    → reading.key (at p (ts ++ rest)) ≡ Some (k, at (p + length ts) rest)
unfolding reading.key
key-reads p ws k (key {ts = ts} {us = us} {vs = vs} {b = b} {d = d} {n = n} f g h) rest low =
    let whole : (ts ++ (us ++ vs)) ++ rest ≡ ts ++ (us ++ (vs ++ rest)) = append_assoc ts (us ++ vs) rest ∙ ap (λ l. ts ++ l) (append_assoc us vs rest) in
    let end : p + length ts + length us + length vs ≡ p + length (ts ++ (us ++ vs)) = simp length-append (omega arith) in
    let at_nulls = nulls-stage h rest (omega arith) in
    let at_direction = direction-stage g (vs ++ rest) (omega (arith, at_nulls)) in
    rw (whole, key_by-reads f p (us ++ (vs ++ rest)) (omega (arith, at_direction)), direction-reads g (p + length ts) (vs ++ rest) (omega (arith, at_nulls)), nulls-read h (p + length ts + length us) rest low)
    (ap (λ q. Some (record { place = p; by = b; descending = d; nulls_first = n }, at q rest)) end)

keys-read : {p : ℕ} {ts : List Token} {ks : List OrderKey} → AreKeys p ts ks → (rest : List Token) → first_stage rest < 3
    → reading.order (at p (ts ++ rest)) ≡ Some (ks, at (p + length ts) rest)
unfolding reading.order expect_word after_word sees_word same_word next
keys-read (no_keys {p = p}) rest h = let none : p ≡ p + 0 = omega arith in rw (past_word w.Order rest h) (ap (λ q. Some ([], at q rest)) none)
keys-read (keys {p = p} {ts = ts} {ks = ks} d) rest h =
    let start : p + 1 + 1 ≡ p + 2 = omega arith in
    let end : p + 2 + length ts ≡ p + length (Word w.Order ∷ Word w.By ∷ ts) = omega arith in
    rw start (separated-reads reading.key IsKey Any (λ ts us g. tt) (λ ts us g. tt) 11 (omega arith) (λ p ts k d g rest h. key-reads p ts k d rest h) d tt rest (omega arith)
    ∙ ap (λ q. Some (ks, at q rest)) end)

-- ---- parts with expressions, which nest no deeper than there is room for

module _ (depth : ℕ) where
  abbrev Good : List Token → Type 0
  Good ts = Room 0 depth ts

  expression-reads : {p : ℕ} {ts : List Token} {t : Tree} → IsExpr p ts t → Good ts → (rest : List Token) → first_stage rest < 20
      → expression (suc depth) (at p (ts ++ rest)) ≡ Some (t, at (p + length ts) rest)
  unfolding expression
  expression-reads d good rest h = expr-reads d depth good rest (past_expression rest h)

  item-reads : (p : ℕ) (ts : List Token) (x : Item) → IsItem p ts x → Good ts → (rest : List Token) → first_stage rest < 15
      → reading.item (suc depth) (at p (ts ++ rest)) ≡ Some (x, at (p + length ts) rest)
  unfolding reading.item
  item-reads p ws x (item {ts = ts} {us = us} {t = t} {a = a} d f) good rest h =
      let end : p + length ts + length us ≡ p + length (ts ++ us) = simp length-append (omega arith) in
      let follows = alias-stage f rest (omega arith) in
      rw (append_assoc ts us rest, expression-reads d (room-left 0 depth ts us good) (us ++ rest) (omega (arith, follows)), alias-reads f (p + length ts) rest h)
      (ap (λ q. Some (record { tree = t; alias = a }, at q rest)) end)

  items-read : {p : ℕ} {ts : List Token} {x : Items} → AreItems p ts x → Good ts → (rest : List Token) → first_stage rest < 9
      → reading.items (suc depth) (at p (ts ++ rest)) ≡ Some (x, at (p + length ts) rest)
  unfolding reading.items after_symbol sees_symbol same_symbol next
  items-read star good rest h = refl
  items-read (items {p = p} {ts = ts} {xs = xs} d) good rest h =
      let o = listed-opens d in
      rw (no_star (ts ++ rest) (o.some rest), separated-reads (reading.item (suc depth)) IsItem Good (room-left 0 depth) (room-tail depth) 15 (omega arith) item-reads d good rest h) refl

  cond-reads : {p : ℕ} {ts : List Token} {c : Cond} → IsCond p ts c → Good ts → (rest : List Token) → first_stage rest < 20
      → reading.cond (suc depth) (at p (ts ++ rest)) ≡ Some (c, at (p + length ts) rest)
  unfolding reading.cond after_word sees_word same_word next
  cond-reads (on {p = p} {ts = ts} {t = t} d) good rest h =
      let end : p + 1 + length ts ≡ p + length (Word w.On ∷ ts) = omega arith in
      rw (expression-reads d (room-behind depth (Word w.On) ts good) rest h) (ap (λ q. Some (On t, at q rest)) end)
  cond-reads (using {p = p} {ts = ts} {ns = ns} d) good rest h =
      let end : p + 2 + length ts + 1 ≡ p + length (Word w.Using ∷ Symbol s.Open ∷ ts ++ Symbol s.Close ∷ []) = simp length-append (omega arith) in
      rw (append_assoc ts (Symbol s.Close ∷ []) rest) (using-reads p d rest ∙ ap (λ q. Some (Using ns, at q rest)) end)

  cross-reads : {ts : List Token} {e : FromEntry} → IsEntry how.Cross ts e → (p : ℕ) (rest : List Token) → first_stage rest < 15
      → reading.joined (suc depth) kind.Cross (at p (ts ++ rest)) ≡ Some (e, at (p + length ts) rest)
  unfolding reading.joined reading.how_by
  cross-reads (entry {ts = ts} {us = us} {t = t} {a = a} d f) p rest h =
      let end : p + length ts + length us ≡ p + length (ts ++ us) = simp length-append (omega arith) in
      let follows = alias-stage f rest (omega arith) in
      rw (append_assoc ts us rest, table-reads d p (us ++ rest) (omega (arith, follows)), alias-reads f (p + length ts) rest h)
      (ap (λ q. Some (reading.entry_of t a how.Cross, at q rest)) end)

  inner-reads : {ts us : List Token} {e : FromEntry} {c : Cond} → IsEntry (how.Inner c) ts e → (p : ℕ) → IsCond (p + length ts) us c → Good us → (rest : List Token) → first_stage rest < 20
      → reading.joined (suc depth) kind.Inner (at p (ts ++ (us ++ rest))) ≡ Some (e, at (p + length ts + length us) rest)
  unfolding reading.joined reading.how_by
  inner-reads {us = vs} {c = c} (entry {ts = ts} {us = us} {t = t} {a = a} d f) p g good rest h =
      let middle : p + length ts + length us ≡ p + length (ts ++ us) = simp length-append (omega arith) in
      let follows = alias-stage f (vs ++ rest) (omega (arith, cond-stage g rest)) in
      rw (
        append_assoc ts us (vs ++ rest),
        table-reads d p (us ++ (vs ++ rest)) (omega (arith, follows)),
        alias-reads f (p + length ts) (vs ++ rest) (cond-stage g rest),
        middle,
        cond-reads g good rest h,
      ) refl

  left-reads : {ts us : List Token} {e : FromEntry} {c : Cond} → IsEntry (how.Left c) ts e → (p : ℕ) → IsCond (p + length ts) us c → Good us → (rest : List Token) → first_stage rest < 20
      → reading.joined (suc depth) kind.Left (at p (ts ++ (us ++ rest))) ≡ Some (e, at (p + length ts + length us) rest)
  unfolding reading.joined reading.how_by
  left-reads {us = vs} {c = c} (entry {ts = ts} {us = us} {t = t} {a = a} d f) p g good rest h =
      let middle : p + length ts + length us ≡ p + length (ts ++ us) = simp length-append (omega arith) in
      let follows = alias-stage f (vs ++ rest) (omega (arith, cond-stage g rest)) in
      rw (
        append_assoc ts us (vs ++ rest),
        table-reads d p (us ++ (vs ++ rest)) (omega (arith, follows)),
        alias-reads f (p + length ts) (vs ++ rest) (cond-stage g rest),
        middle,
        cond-reads g good rest h,
      ) refl

  -- what joins an entry is read, and then the entry
  record Joined (i j : Input) (e : FromEntry) : Type 0 where
    kind : JoinKind
    behind : Input
    words : reading.join_kind i ≡ Some (Some kind, behind)
    reads : reading.joined (suc depth) kind behind ≡ Some (e, j)

  join-reads : {p : ℕ} {ts : List Token} {e : FromEntry} → IsJoin p ts e → Good ts → (rest : List Token) → first_stage rest < 15 → Joined (at p (ts ++ rest)) (at (p + length ts) rest) e
  unfolding reading.join_kind reading.join_as reading.left_join expect_word after_word sees_word same_word next
  join-reads (comma_entry {p = p} {ts = ts} {e = e} d) good rest h =
      let end : p + 1 + length ts ≡ p + length (Symbol s.Comma ∷ ts) = omega arith in
      record { kind = kind.Cross; behind = at (p + 1) (ts ++ rest); words = refl; reads = cross-reads d (p + 1) rest h ∙ ap (λ q. Some (e, at q rest)) end }
  join-reads (cross_join {p = p} {ts = ts} {e = e} d) good rest h =
      let end : p + 1 + 1 + length ts ≡ p + length (Word w.Cross ∷ Word w.Join ∷ ts) = omega arith in
      record { kind = kind.Cross; behind = at (p + 1 + 1) (ts ++ rest); words = refl; reads = cross-reads d (p + 1 + 1) rest h ∙ ap (λ q. Some (e, at q rest)) end }
  join-reads (join {p = p} {ts = ts} {us = us} {e = e} d c) good rest h =
      let end : p + 1 + length ts + length us ≡ p + length (Word w.Join ∷ ts ++ us) = simp length-append (omega arith) in
      record {
        kind = kind.Inner;
        behind = at (p + 1) (ts ++ (us ++ rest));
        words = ap (λ l. Some (Some kind.Inner, at (p + 1) l)) (append_assoc ts us rest);
        reads = inner-reads d (p + 1) c (room-tail depth (Word w.Join ∷ ts) us good) rest (omega arith) ∙ ap (λ q. Some (e, at q rest)) end;
      }
  join-reads (inner_join {p = p} {ts = ts} {us = us} {e = e} d c) good rest h =
      let start : p + 1 + 1 ≡ p + 2 = omega arith in
      let end : p + 2 + length ts + length us ≡ p + length (Word w.Inner ∷ Word w.Join ∷ ts ++ us) = simp length-append (omega arith) in
      record {
        kind = kind.Inner;
        behind = at (p + 2) (ts ++ (us ++ rest));
        words = ap (λ l. Some (Some kind.Inner, at (p + 1 + 1) l)) (append_assoc ts us rest) ∙ ap (λ q. Some (Some kind.Inner, at q (ts ++ (us ++ rest)))) start;
        reads = inner-reads d (p + 2) c (room-tail depth (Word w.Inner ∷ Word w.Join ∷ ts) us good) rest (omega arith) ∙ ap (λ q. Some (e, at q rest)) end;
      }
  join-reads (left_join {p = p} {ts = ts} {us = us} {e = e} d c) good rest h =
      let start : p + 1 + 1 ≡ p + 2 = omega arith in
      let end : p + 2 + length ts + length us ≡ p + length (Word w.Left ∷ Word w.Join ∷ ts ++ us) = simp length-append (omega arith) in
      record {
        kind = kind.Left;
        behind = at (p + 2) (ts ++ (us ++ rest));
        words = ap (λ l. Some (Some kind.Left, at (p + 1 + 1) l)) (append_assoc ts us rest) ∙ ap (λ q. Some (Some kind.Left, at q (ts ++ (us ++ rest)))) start;
        reads = left-reads d (p + 2) c (room-tail depth (Word w.Left ∷ Word w.Join ∷ ts) us good) rest (omega arith) ∙ ap (λ q. Some (e, at q rest)) end;
      }
  join-reads (left_outer_join {p = p} {ts = ts} {us = us} {e = e} d c) good rest h =
      let start : p + 1 + 1 + 1 ≡ p + 3 = omega arith in
      let end : p + 3 + length ts + length us ≡ p + length (Word w.Left ∷ Word w.Outer ∷ Word w.Join ∷ ts ++ us) = simp length-append (omega arith) in
      record {
        kind = kind.Left;
        behind = at (p + 3) (ts ++ (us ++ rest));
        words = ap (λ l. Some (Some kind.Left, at (p + 1 + 1 + 1) l)) (append_assoc ts us rest) ∙ ap (λ q. Some (Some kind.Left, at q (ts ++ (us ++ rest)))) start;
        reads = left-reads d (p + 3) c (room-tail depth (Word w.Left ∷ Word w.Outer ∷ Word w.Join ∷ ts) us good) rest (omega arith) ∙ ap (λ q. Some (e, at q rest)) end;
      }

  no_join_kind : (p : ℕ) (l : List Token) → first_stage l < 7 → reading.join_kind (at p l) ≡ Some (None, at p l)
  unfolding reading.join_kind
  no_join_kind p [] h = refl
  no_join_kind p (Name n ∷ ts) h = refl
  no_join_kind p (Word w.Cross ∷ ts) h = absurd (omega arith)
  no_join_kind p (Word w.Join ∷ ts) h = absurd (omega arith)
  no_join_kind p (Word w.Inner ∷ ts) h = absurd (omega arith)
  no_join_kind p (Word w.Left ∷ ts) h = absurd (omega arith)
  no_join_kind p (Word _ ∷ ts) h = refl
  no_join_kind p (Number n ∷ ts) h = refl
  no_join_kind p (Text t ∷ ts) h = refl
  no_join_kind p (Symbol s.Comma ∷ ts) h = absurd (omega arith)
  no_join_kind p (Symbol _ ∷ ts) h = refl

  joins-stop : (n : ℕ) (found : List FromEntry) (p : ℕ) (rest : List Token) → first_stage rest < 7 → reading.joins_from (suc depth) n found (at p rest) ≡ Some (found, at p rest)
  unfolding reading.joins_from
  joins-stop zero found p rest h = refl
  joins-stop (suc n) found p rest h = rw (no_join_kind p rest h) refl

  joins-step : (n : ℕ) (found : List FromEntry) (i j : Input) (e : FromEntry) → Joined i j e → reading.joins_from (suc depth) (suc n) found i ≡ reading.joins_from (suc depth) n (found ++ e ∷ []) j
  unfolding reading.joins_from
  joins-step n found i j e q = rw (q.words, q.reads) refl

  joins-go : {p : ℕ} {ts : List Token} {es : List FromEntry} → AreJoins p ts es → Good ts → (rest : List Token) → first_stage rest < 7 → (n : ℕ) → length es ≤ n → (found : List FromEntry)
      → reading.joins_from (suc depth) n found (at p (ts ++ rest)) ≡ Some (found ++ es, at (p + length ts) rest)
  joins-go (no_joins {p = p}) good rest h n le found =
      let none : p ≡ p + 0 = omega arith in joins-stop n found p rest h ∙ ap (λ f. Some (f, at p rest)) (sym (append-nil found)) ∙ ap (λ q. Some (found ++ [], at q rest)) none
  joins-go (joins d ds) good rest h zero le found = absurd (omega arith)
  joins-go (joins {p = p} {ts = ts} {us = us} {e = e} {es = es} d ds) good rest h (suc n) le found =
      let end : p + length ts + length us ≡ p + length (ts ++ us) = simp length-append (omega arith) in
      let follows = joins-stage ds rest h in
      ap (λ l. reading.joins_from (suc depth) (suc n) found (at p l)) (append_assoc ts us rest)
      ∙ joins-step n found (at p (ts ++ (us ++ rest))) (at (p + length ts) (us ++ rest)) e (join-reads d (room-left 0 depth ts us good) (us ++ rest) (omega (arith, follows)))
      ∙ joins-go ds (room-tail depth ts us good) rest h n (omega arith) (found ++ e ∷ [])
      ∙ ap (λ f. Some (f, at (p + length ts + length us) rest)) (append_assoc found (e ∷ []) es)
      ∙ ap (λ q. Some (found ++ e ∷ es, at q rest)) end

  some_tokens : {p : ℕ} {ts : List Token} {e : FromEntry} → IsJoin p ts e → 1 ≤ length ts
  some_tokens (comma_entry d) = omega arith
  some_tokens (cross_join d) = omega arith
  some_tokens (join d c) = omega arith
  some_tokens (inner_join d c) = omega arith
  some_tokens (left_join d c) = omega arith
  some_tokens (left_outer_join d c) = omega arith

  few_joins : {p : ℕ} {ts : List Token} {es : List FromEntry} → AreJoins p ts es → length es ≤ length ts
  few_joins no_joins = omega arith
  few_joins (joins {ts = ts} {us = us} d ds) = omega (arith, few_joins ds, some_tokens d, length-append ts us)

  first_entry-reads : {ts : List Token} {e : FromEntry} → IsEntry how.First ts e → (p : ℕ) (rest : List Token) → first_stage rest < 15
      → reading.first_entry (at p (ts ++ rest)) ≡ Some (e, at (p + length ts) rest)
  unfolding reading.first_entry
  first_entry-reads (entry {ts = ts} {us = us} {t = t} {a = a} d f) p rest h =
      let end : p + length ts + length us ≡ p + length (ts ++ us) = simp length-append (omega arith) in
      let follows = alias-stage f rest (omega arith) in
      rw (append_assoc ts us rest, table-reads d p (us ++ rest) (omega (arith, follows)), alias-reads f (p + length ts) rest h)
      (ap (λ q. Some (reading.entry_of t a how.First, at q rest)) end)

  from-reads : {ts us : List Token} {e : FromEntry} {es : List FromEntry} (p : ℕ) → IsEntry how.First ts e → AreJoins (p + length ts) us es → Good us → (rest : List Token) → first_stage rest < 7
      → reading.from (suc depth) (at p (ts ++ (us ++ rest))) ≡ Some (e ∷ es, at (p + length ts + length us) rest)
  unfolding reading.from
  from-reads {ts = ts} {us = us} {e = e} {es = es} p d ds good rest h =
      let enough : length es ≤ length (us ++ rest) = omega (arith, few_joins ds, length-append us rest) in
      let follows = joins-stage ds rest h in
      rw (first_entry-reads d p (us ++ rest) (omega (arith, follows))) (joins-go ds good rest h (length (us ++ rest)) enough (e ∷ []))

  clause-reads : {word : Reserved} {p : ℕ} {ts : List Token} {t : Option Tree} → IsClause word p ts t → Good ts → (rest : List Token) → first_stage rest < word_stage word → first_stage rest < 20
      → reading.clause (suc depth) word (at p (ts ++ rest)) ≡ Some (t, at (p + length ts) rest)
  unfolding reading.clause after_word sees_word next
  clause-reads {word = word} (no_clause {p = p}) good rest h low = let none : p ≡ p + 0 = omega arith in rw (past_word word rest h) (ap (λ q. Some (None, at q rest)) none)
  clause-reads {word = word} (clause {p = p} {ts = ts} {t = t} d) good rest h low =
      let end : p + 1 + length ts ≡ p + length (Word word ∷ ts) = omega arith in
      rw (same_self word, expression-reads d (room-behind depth (Word word) ts good) rest low) (ap (λ q. Some (Some t, at q rest)) end)

  record FromReads (i j : Input) (f : List FromEntry) : Type 0 where
    behind : Input
    word : expect_word w.From i ≡ Some (tt, behind)
    entries : reading.from (suc depth) behind ≡ Some (f, j)

  from_clause-reads : {p : ℕ} {ts : List Token} {f : List FromEntry} → IsFrom p ts f → Good ts → (rest : List Token) → first_stage rest < 7
      → FromReads (at p (ts ++ rest)) (at (p + length ts) rest) f
  unfolding expect_word sees_word same_word next
  from_clause-reads (from {p = p} {ts = ts} {us = us} {e = e} {es = es} d ds) good rest h =
      let end : p + 1 + length ts + length us ≡ p + length (Word w.From ∷ ts ++ us) = simp length-append (omega arith) in
      record {
        behind = at (p + 1) (ts ++ (us ++ rest));
        word = ap (λ l. Some (tt, at (p + 1) l)) (append_assoc ts us rest);
        entries = from-reads (p + 1) d ds (room-tail depth (Word w.From ∷ ts) us good) rest h ∙ ap (λ q. Some (e ∷ es, at q rest)) end;
      }

  whole_select : (i0 i1 i2 i3 i4 i5 i6 i7 i8 : Input) (d : Bool) (it : Items) (f : List FromEntry) (c h : Option Tree) (g : List ColumnName) (o : List OrderKey)
      → sees_word w.Distinct i0 ≡ d → after_word w.Distinct i0 ≡ i1 → reading.items (suc depth) i1 ≡ Some (it, i2) → expect_word w.From i2 ≡ Some (tt, i3)
      → reading.from (suc depth) i3 ≡ Some (f, i4) → reading.clause (suc depth) w.Where i4 ≡ Some (c, i5) → reading.groups i5 ≡ Some (g, i6)
      → reading.clause (suc depth) w.Having i6 ≡ Some (h, i7) → reading.order i7 ≡ Some (o, i8)
      → reading.select (suc depth) i0 ≡ Some (record { distinct = d; items = it; from = f; filter = c; groups = g; having = h; order = o }, i8)
  unfolding reading.select
  whole_select i0 i1 i2 i3 i4 i5 i6 i7 i8 d it f c h g o p0 p1 p2 p3 p4 p5 p6 p7 p8 = rw (p0, p1, p2, p3, p4, p5, p6, p7, p8) refl

  -- SELECT and what is read behind it
  pub record SelectReads (p : ℕ) (ts : List Token) (q : Select) (rest : List Token) : Type 0 where
    pub behind : List Token
    pub first : ts ≡ Word w.Select ∷ behind
    pub reads : reading.select (suc depth) (at (p + 1) (behind ++ rest)) ≡ Some (q, at (p + length ts) rest)

  seven : (ds is fs ws gs hs os rest : List Token) → (ds ++ (is ++ (fs ++ (ws ++ (gs ++ (hs ++ os)))))) ++ rest ≡ ds ++ (is ++ (fs ++ (ws ++ (gs ++ (hs ++ (os ++ rest))))))
  seven ds is fs ws gs hs os rest = simp append_assoc refl

  pub select-reads : {p : ℕ} {ts : List Token} {q : Select} → IsSelect p ts q → Good ts → (rest : List Token) → first_stage rest < 3 → SelectReads p ts q rest
  select-reads (select {p = p} {ds = ds} {is = is} {fs = fs} {ws = ws} {gs = gs} {hs = hs} {os = os} {d = d} {i = i} {f = f} {c = c} {h = h} {g = g} {o = o} dd ii ff ww gg hh oo) good rest low =
      let end : p + 1 + length ds + length is + length fs + length ws + length gs + length hs + length os ≡ p + length (Word w.Select ∷ ds ++ (is ++ (fs ++ (ws ++ (gs ++ (hs ++ os)))))) =
      simp length-append (omega arith) in
      let good_is = room-tail depth ds _ (room-behind depth (Word w.Select) _ good) in
      let good_fs = room-tail depth is _ good_is in
      let good_ws = room-tail depth fs _ good_fs in
      let good_gs = room-tail depth ws _ good_ws in
      let good_hs = room-tail depth gs _ good_gs in
      let at_os = keys-stage oo rest low in
      let at_hs = clause-stage hh (os ++ rest) (omega (arith, at_os)) in
      let at_gs = groups-stage gg (hs ++ (os ++ rest)) (omega (arith, at_hs)) in
      let at_ws = clause-stage ww (gs ++ (hs ++ (os ++ rest))) (omega (arith, at_gs)) in
      let at_fs = from-stage ff (ws ++ (gs ++ (hs ++ (os ++ rest)))) in
      let distincts = distinct-reads dd (p + 1) (is ++ (fs ++ (ws ++ (gs ++ (hs ++ (os ++ rest)))))) (items-open ii (fs ++ (ws ++ (gs ++ (hs ++ (os ++ rest)))))) in
      let from_read = from_clause-reads ff (room-left 0 depth fs _ good_fs) (ws ++ (gs ++ (hs ++ (os ++ rest)))) (omega (arith, at_ws)) in
      record {
        behind = ds ++ (is ++ (fs ++ (ws ++ (gs ++ (hs ++ os)))));
        first = refl;
        reads = ap (λ l. reading.select (suc depth) (at (p + 1) l)) (seven ds is fs ws gs hs os rest)
            ∙ whole_select _ _ _ from_read.behind _ _ _ _ _ d i f c h g o distincts.0 distincts.1
            (items-read ii (room-left 0 depth is _ good_is) (fs ++ (ws ++ (gs ++ (hs ++ (os ++ rest))))) at_fs)
            from_read.word from_read.entries
            (clause-reads ww (room-left 0 depth ws _ good_ws) (gs ++ (hs ++ (os ++ rest))) (omega (arith, at_gs)) (omega (arith, at_gs)))
            (groups-read gg (hs ++ (os ++ rest)) (omega (arith, at_hs)))
            (clause-reads hh (room-left 0 depth hs _ good_hs) (os ++ rest) (omega (arith, at_os)) (omega (arith, at_os)))
            (keys-read oo rest low)
            ∙ ap (λ z. Some (record { distinct = d; items = i; from = f; filter = c; groups = g; having = h; order = o }, at z rest)) end;
      }
