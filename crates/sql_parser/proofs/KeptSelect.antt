-- What a SELECT is printed as is no worse than the tokens that spell it.
use Rattle.std.proofs.Common.{ℕ, Bool, true, false, if◌then◌else◌, List, [], ◌∷◌, ◌++◌, unwrap_or, Option, refl, sym, subst, append_assoc, append-nil}
use Rattle.std.specs.List.{flat_map}
use Rattle.std.specs.Str.{bytes_eq}
use Rattle.std.proofs.lemmas.Slice.Eq.{bytes_eq-Decides}
use Rattle.sql_text.specs.declared.token.Token.{Token}
use Rattle.sql_text.specs.declared.token.Token.TheVariants.{Name, Word, Number, Symbol}
use Rattle.sql_text.specs.declared.token.Reserved.{Reserved}
use Rattle.sql_text.specs.declared.token.Reserved.TheVariants as w
use Rattle.sql_text.specs.declared.token.Symbol.TheVariants as s
use Rattle.sql_tree.specs.declared.tree.Tree.{Tree}
use Rattle.sql_tree.specs.declared.tree.ColumnName.{ColumnName}
use Rattle.sql_tree.specs.declared.select.TableName.{TableName}
use Rattle.sql_tree.specs.declared.select.Item.{Item}
use Rattle.sql_tree.specs.declared.select.Items.{Items}
use Rattle.sql_tree.specs.declared.select.Cond.{Cond}
use Rattle.sql_tree.specs.declared.select.UsingName.{UsingName}
use Rattle.sql_tree.specs.declared.select.FromEntry.{FromEntry}
use Rattle.sql_tree.specs.declared.select.KeyBy.{KeyBy}
use Rattle.sql_tree.specs.declared.select.OrderKey.{OrderKey}
use Rattle.sql_tree.specs.declared.select.Select.{Select}
use Rattle.sql_printer.specs.Printing as printing
use Rattle.sql_printer.specs.Printing.{Tokens, listed, in_brackets, column_tokens, table_tokens, using_tokens, tree_tokens, optional, item_tokens, items_tokens, cond_tokens, alias_tokens, entry_tokens, word_if, by_tokens, nulls_tokens, key_tokens, select_tokens}
use Rattle.sql_parser.specs.Grammar as grammar
use Rattle.sql_parser.specs.Grammar.{Separated, last, comma, IsTable, plain_table, qualified_table, IsAlias, no_alias, as_alias, IsItem, item, AreItems, star, items, IsEntry, entry, IsUsingName, using_name, IsCond, on, using, IsJoin, comma_entry, cross_join, join, inner_join, left_join, left_outer_join, AreJoins, no_joins, joins, IsClause, no_clause, clause, IsColumnAt, AreGroups, no_groups, groups, IsKeyBy, by_number, by_column, IsDirection, no_direction, asc, desc, IsNulls, no_nulls, nulls_first, nulls_last, IsKey, key, AreKeys, no_keys, keys, IsDistinct, all_rows, distinct, IsFrom, from, IsSelect, select}
use Rattle.sql_parser.proofs.AgainSelect.{listed_comma, clause_some}
use Rattle.sql_parser.proofs.Kept.{NoWorse, nothing, token_kept, beside, behind_token, behind_word, left_out, put_in, in_both, column_kept, expr_kept}

-- ---- lists

pub listed_kept : {A : Type 0} {Part : ℕ → List Token → A → Type 0} {p : ℕ} {ts : List Token} {xs : List A} (f : A → Tokens)
    → ((p : ℕ) (ts : List Token) (x : A) → Part p ts x → NoWorse ts (f x)) → Separated Part p ts xs → NoWorse ts (listed f xs)
listed_kept f each (last {p = p} {ts = ts} {x = x} d) = subst (λ us. NoWorse ts us) (sym (append-nil (f x))) (each p ts x d)
listed_kept f each (comma {p = p} {ts = ts} {us = us} {x = x} {xs = xs} d ds) =
    subst (λ vs. NoWorse (ts ++ Symbol s.Comma ∷ us) vs) (sym (listed_comma f ds x))
    (beside ts (f x) (Symbol s.Comma ∷ us) (Symbol s.Comma ∷ listed f xs) (each p ts x d) (behind_token (Symbol s.Comma) us (listed f xs) (λ k. refl) (listed_kept f each ds)))

name_kept : (n : List ℕ) → NoWorse (Name n ∷ []) (Name n ∷ [])
name_kept n = token_kept (Name n) (λ k. refl)

pub table_kept : {ts : List Token} {t : TableName} → IsTable ts t → NoWorse ts (table_tokens t)
table_kept plain_table = name_kept _
table_kept qualified_table = behind_token (Name _) _ _ (λ k. refl) (behind_token (Symbol s.Dot) _ _ (λ k. refl) (name_kept _))

pub columns_kept : {p : ℕ} {ts : List Token} {cs : List ColumnName} → Separated IsColumnAt p ts cs → NoWorse ts (listed column_tokens cs)
columns_kept d = listed_kept column_tokens (λ p ts c e. column_kept e) d

-- ---- aliases

alias_kept : {us : List Token} {a : Option (List ℕ)} → IsAlias us a → NoWorse us (optional (λ alias. Word w.As ∷ Name alias ∷ []) a)
alias_kept no_alias = nothing
alias_kept (grammar.alias {n = n}) = put_in w.As (Name n ∷ []) (Name n ∷ []) refl (name_kept n)
alias_kept (as_alias {n = n}) = behind_word w.As (Name n ∷ []) (Name n ∷ []) (name_kept n)

-- an alias that is the table's name isn't printed
named_kept : (us : List Token) (n a : List ℕ) → NoWorse us [] → NoWorse us (Word w.As ∷ Name a ∷ []) → NoWorse us (alias_tokens n a)
named_kept us n a x y = split (bytes_eq a n) where
  split : (b : Bool) → NoWorse us (if b then [] else Word w.As ∷ Name a ∷ [])
  split true = x
  split false = y

entry_alias_kept : {us : List Token} {a : Option (List ℕ)} (n : List ℕ) → IsAlias us a → NoWorse us (alias_tokens n (unwrap_or a n))
entry_alias_kept n no_alias = subst (λ b. NoWorse [] (if b then [] else Word w.As ∷ Name n ∷ [])) (sym ((bytes_eq-Decides n n).1 refl)) nothing
entry_alias_kept n (grammar.alias {n = a}) =
    named_kept (Name a ∷ []) n a (left_out (Name a) [] [] (λ k. refl) nothing) (put_in w.As (Name a ∷ []) (Name a ∷ []) refl (name_kept a))
entry_alias_kept n (as_alias {n = a}) =
    named_kept (Word w.As ∷ Name a ∷ []) n a (left_out (Word w.As) (Name a ∷ []) [] (λ k. refl) (left_out (Name a) [] [] (λ k. refl) nothing))
    (behind_word w.As (Name a ∷ []) (Name a ∷ []) (name_kept a))

-- an entry without what stands around it
entry_kept : {ts us : List Token} {t : TableName} {a : Option (List ℕ)} → IsTable ts t → IsAlias us a → NoWorse (ts ++ us) (table_tokens t ++ alias_tokens t.name (unwrap_or a t.name))
entry_kept {t = t} d f = beside _ _ _ _ (table_kept d) (entry_alias_kept t.name f)

-- ---- items and conditions

item_kept : (p : ℕ) (ts : List Token) (x : Item) → IsItem p ts x → NoWorse ts (item_tokens x)
item_kept p ts x (item d e) = beside _ _ _ _ (expr_kept d) (alias_kept e)

items_kept : {p : ℕ} {ts : List Token} {x : Items} → AreItems p ts x → NoWorse ts (items_tokens x)
items_kept star = token_kept (Symbol s.Star) (λ k. refl)
items_kept (items d) = listed_kept item_tokens item_kept d

cond_kept : {p : ℕ} {ts : List Token} {c : Cond} → IsCond p ts c → NoWorse ts (cond_tokens c)
cond_kept (on d) = behind_word w.On _ _ (expr_kept d)
cond_kept (using {ts = ts} {ns = ns} d) = behind_word w.Using _ _ (in_both ts (listed using_tokens ns) (listed_kept using_tokens each d)) where
  each : (p : ℕ) (ts : List Token) (x : UsingName) → IsUsingName p ts x → NoWorse ts (using_tokens x)
  each p ts x (using_name {n = n}) = name_kept n

-- ---- FROM

-- an entry with nothing behind it
alone_kept : (ts : List Token) (t : TableName) (a : List ℕ) → NoWorse ts (table_tokens t ++ alias_tokens t.name a) → NoWorse ts (table_tokens t ++ (alias_tokens t.name a ++ []))
alone_kept ts t a x = subst (λ us. NoWorse ts (table_tokens t ++ us)) (sym (append-nil (alias_tokens t.name a))) x

-- an entry with its condition
joined_kept : (ts us : List Token) (t : TableName) (a : List ℕ) (c : Cond) → NoWorse ts (table_tokens t ++ alias_tokens t.name a) → NoWorse us (cond_tokens c)
    → NoWorse (ts ++ us) (table_tokens t ++ (alias_tokens t.name a ++ cond_tokens c))
joined_kept ts us t a c x y = subst (λ vs. NoWorse (ts ++ us) vs) (append_assoc (table_tokens t) (alias_tokens t.name a) (cond_tokens c)) (beside ts _ us _ x y)

join_kept : {p : ℕ} {ts : List Token} {e : FromEntry} → IsJoin p ts e → NoWorse ts (entry_tokens e)
join_kept (comma_entry {ts = ts} (entry {t = t} {a = a} d f)) =
    let x = alone_kept ts t (unwrap_or a t.name) (entry_kept d f) in
    left_out (Symbol s.Comma) _ _ (λ k. refl) (put_in w.Cross _ _ refl (put_in w.Join _ _ refl x))
join_kept (cross_join {ts = ts} (entry {t = t} {a = a} d f)) =
    let x = alone_kept ts t (unwrap_or a t.name) (entry_kept d f) in
    behind_word w.Cross _ _ (behind_word w.Join _ _ x)
join_kept (join {ts = ts} {us = us} {c = c} (entry {t = t} {a = a} d f) g) =
    let x = joined_kept ts us t (unwrap_or a t.name) c (entry_kept d f) (cond_kept g) in
    behind_word w.Join _ _ x
join_kept (inner_join {ts = ts} {us = us} {c = c} (entry {t = t} {a = a} d f) g) =
    let x = joined_kept ts us t (unwrap_or a t.name) c (entry_kept d f) (cond_kept g) in
    left_out (Word w.Inner) _ _ (λ k. refl) (behind_word w.Join _ _ x)
join_kept (left_join {ts = ts} {us = us} {c = c} (entry {t = t} {a = a} d f) g) =
    let x = joined_kept ts us t (unwrap_or a t.name) c (entry_kept d f) (cond_kept g) in
    behind_word w.Left _ _ (behind_word w.Join _ _ x)
join_kept (left_outer_join {ts = ts} {us = us} {c = c} (entry {t = t} {a = a} d f) g) =
    let x = joined_kept ts us t (unwrap_or a t.name) c (entry_kept d f) (cond_kept g) in
    behind_word w.Left _ _ (left_out (Word w.Outer) _ _ (λ k. refl) (behind_word w.Join _ _ x))

joins_kept : {p : ℕ} {ts : List Token} {es : List FromEntry} → AreJoins p ts es → NoWorse ts (flat_map entry_tokens es)
joins_kept no_joins = nothing
joins_kept (joins d ds) = beside _ _ _ _ (join_kept d) (joins_kept ds)

from_kept : {p : ℕ} {ts : List Token} {es : List FromEntry} → IsFrom p ts es → NoWorse ts (Word w.From ∷ flat_map entry_tokens es)
from_kept (from {ts = ts} (entry {t = t} {a = a} d f) ds) =
    behind_word w.From _ _ (beside _ _ _ _ (alone_kept ts t (unwrap_or a t.name) (entry_kept d f)) (joins_kept ds))

-- ---- the clauses

clause_kept : (v : Reserved) {p : ℕ} {ts : List Token} {o : Option Tree} → IsClause v p ts o → NoWorse ts (optional (λ tree. Word v ∷ tree_tokens tree) o)
clause_kept v no_clause = nothing
clause_kept v (clause d) = behind_word v _ _ (expr_kept d)

groups_kept : {p : ℕ} {ts : List Token} {cs : List ColumnName} → AreGroups p ts cs → NoWorse ts (printing.clause (Word w.Group ∷ Word w.By ∷ []) column_tokens cs)
groups_kept no_groups = nothing
groups_kept (groups {ts = ts} d) =
    subst (λ us. NoWorse (Word w.Group ∷ Word w.By ∷ ts) us) (sym (clause_some (Word w.Group ∷ Word w.By ∷ []) column_tokens d))
    (behind_word w.Group _ _ (behind_word w.By _ _ (columns_kept d)))

by_kept : {ts : List Token} {b : KeyBy} → IsKeyBy ts b → NoWorse ts (by_tokens b)
by_kept by_number = token_kept (Number _) (λ k. refl)
by_kept (by_column d) = column_kept d

direction_kept : {ts : List Token} {d : Bool} → IsDirection ts d → NoWorse ts (word_if w.Desc d)
direction_kept no_direction = nothing
direction_kept asc = left_out (Word w.Asc) _ _ (λ k. refl) nothing
direction_kept desc = token_kept (Word w.Desc) (λ k. refl)

two_left_out : (u v : Reserved) → NoWorse (Word u ∷ Word v ∷ []) []
two_left_out u v = left_out (Word u) (Word v ∷ []) [] (λ k. refl) (left_out (Word v) [] [] (λ k. refl) nothing)

two_kept : (u v : Reserved) → NoWorse (Word u ∷ Word v ∷ []) (Word u ∷ Word v ∷ [])
two_kept u v = behind_word u _ _ (behind_word v _ _ nothing)

own_nulls_kept : (d : Bool) → NoWorse [] (nulls_tokens d d)
own_nulls_kept true = nothing
own_nulls_kept false = nothing

first_kept : (d : Bool) → NoWorse (Word w.Nulls ∷ Word w.First ∷ []) (nulls_tokens d true)
first_kept true = two_left_out w.Nulls w.First
first_kept false = two_kept w.Nulls w.First

last_kept : (d : Bool) → NoWorse (Word w.Nulls ∷ Word w.Last ∷ []) (nulls_tokens d false)
last_kept true = two_kept w.Nulls w.Last
last_kept false = two_left_out w.Nulls w.Last

nulls_kept : {d n : Bool} {ts : List Token} → IsNulls d ts n → NoWorse ts (nulls_tokens d n)
nulls_kept {d = d} no_nulls = own_nulls_kept d
nulls_kept {d = d} nulls_first = first_kept d
nulls_kept {d = d} nulls_last = last_kept d

key_kept : (p : ℕ) (ts : List Token) (x : OrderKey) → IsKey p ts x → NoWorse ts (key_tokens x)
key_kept p ts x (key f g h) = beside _ _ _ _ (by_kept f) (beside _ _ _ _ (direction_kept g) (nulls_kept h))

keys_kept : {p : ℕ} {ts : List Token} {ks : List OrderKey} → AreKeys p ts ks → NoWorse ts (printing.clause (Word w.Order ∷ Word w.By ∷ []) key_tokens ks)
keys_kept no_keys = nothing
keys_kept (keys {ts = ts} d) =
    subst (λ us. NoWorse (Word w.Order ∷ Word w.By ∷ ts) us) (sym (clause_some (Word w.Order ∷ Word w.By ∷ []) key_tokens d))
    (behind_word w.Order _ _ (behind_word w.By _ _ (listed_kept key_tokens key_kept d)))

distinct_kept : {ts : List Token} {d : Bool} → IsDistinct ts d → NoWorse ts (word_if w.Distinct d)
distinct_kept all_rows = nothing
distinct_kept distinct = token_kept (Word w.Distinct) (λ k. refl)

pub select_kept : {p : ℕ} {ts : List Token} {x : Select} → IsSelect p ts x → NoWorse ts (select_tokens x)
select_kept (select d i f c g h o) =
    behind_word w.Select _ _
    (beside _ _ _ _ (distinct_kept d)
    (beside _ _ _ _ (items_kept i)
    (beside _ _ _ _ (from_kept f)
    (beside _ _ _ _ (clause_kept w.Where c)
    (beside _ _ _ _ (groups_kept g)
    (beside _ _ _ _ (clause_kept w.Having h) (keys_kept o)))))))
