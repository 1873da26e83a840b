-- What a SELECT is printed as is spelled as that SELECT again, places aside.
use Rattle.std.proofs.Common.{◌≡◌, ℕ, ◌+◌, Bool, true, false, if◌then◌else◌, List, [], ◌∷◌, ◌++◌, length, map, unwrap_or, Option, Some, None, refl, sym, ap, subst, ◌∙◌, append_assoc, append-nil}
use Rattle.std.specs.List.{flat_map}
use Rattle.std.specs.Option.{option_map}
use Rattle.std.specs.Str.{bytes_eq}
use Rattle.std.proofs.Math.Dec.{eqb-suc-zero}
use Rattle.std.proofs.lemmas.Slice.Eq.{bytes_eq-Decides}
use Rattle.sql_text.specs.declared.token.Token.{Token}
use Rattle.sql_text.specs.declared.token.Token.TheVariants.{Name, Word, Symbol}
use Rattle.sql_text.specs.declared.token.Reserved.{Reserved}
use Rattle.sql_text.specs.declared.token.Reserved.TheVariants as w
use Rattle.sql_text.specs.declared.token.Symbol.TheVariants as s
use Rattle.sql_tree.specs.declared.tree.Tree.{Tree}
use Rattle.sql_tree.specs.declared.tree.ColumnName.{ColumnName}
use Rattle.sql_tree.specs.declared.select.TableName.{TableName}
use Rattle.sql_tree.specs.declared.select.Item.{Item}
use Rattle.sql_tree.specs.declared.select.Items.{Items}
use Rattle.sql_tree.specs.declared.select.Items.TheVariants.{Star, Listed}
use Rattle.sql_tree.specs.declared.select.Cond.{Cond}
use Rattle.sql_tree.specs.declared.select.Cond.TheVariants.{On, Using}
use Rattle.sql_tree.specs.declared.select.UsingName.{UsingName}
use Rattle.sql_tree.specs.declared.select.How.{How}
use Rattle.sql_tree.specs.declared.select.How.TheVariants as how
use Rattle.sql_tree.specs.declared.select.FromEntry.{FromEntry}
use Rattle.sql_tree.specs.declared.select.KeyBy.{KeyBy}
use Rattle.sql_tree.specs.declared.select.OrderKey.{OrderKey}
use Rattle.sql_tree.specs.declared.select.Select.{Select}
use Rattle.sql_printer.specs.Printing as printing
use Rattle.sql_printer.specs.Printing.{Tokens, listed, dotted, column_tokens, table_tokens, using_tokens, tree_tokens, optional, item_tokens, items_tokens, cond_tokens, alias_tokens, entry_tokens, word_if, by_tokens, nulls_tokens, key_tokens, select_tokens}
use Rattle.sql_tree.specs.Same.{placeless_tree, placeless_item, placeless_items, placeless_using, placeless_cond, placeless_entry, placeless_key, placeless_select}
use Rattle.sql_parser.specs.Grammar.{Separated, last, comma, IsTable, plain_table, qualified_table, IsAlias, no_alias, as_alias, IsItem, item, AreItems, star, items, IsEntry, entry, IsUsingName, using_name, IsCond, on, using, IsJoin, comma_entry, cross_join, join, inner_join, left_join, left_outer_join, AreJoins, no_joins, joins, IsClause, no_clause, clause, IsColumnAt, AreGroups, no_groups, groups, IsKeyBy, by_number, by_column, IsDirection, no_direction, desc, IsNulls, no_nulls, nulls_first, nulls_last, IsKey, key, AreKeys, no_keys, keys, IsDistinct, all_rows, distinct, IsFrom, from, IsSelect, select}
use Rattle.sql_parser.proofs.Again.{Respelled, expr_respelled, column_spelled}

-- ---- lists

pub listed_comma : {A : Type 0} {Part : ℕ → List Token → A → Type 0} {p : ℕ} {ts : List Token} {xs : List A} (f : A → Tokens) → Separated Part p ts xs → (x : A)
    → listed f (x ∷ xs) ≡ f x ++ Symbol s.Comma ∷ listed f xs
listed_comma f (last d) x = refl
listed_comma f (comma d ds) x = refl

pub listed_again : {A : Type 0} {Part : ℕ → List Token → A → Type 0} {p : ℕ} {ts : List Token} {xs : List A} (plain : A → A) (f : A → Tokens)
    → ((p : ℕ) (ts : List Token) (x : A) → Part p ts x → (q : ℕ) → Respelled Part plain q (f x) x)
    → Separated Part p ts xs → (q : ℕ) → Respelled (Separated Part) (map plain) q (listed f xs) xs
listed_again {Part = Part} plain f each (last {p = p} {ts = ts} {x = x} d) q =
    let r = each p ts x d q in
    record {
      value = r.value ∷ [];
      spelled = subst (λ us. Separated Part q us (r.value ∷ [])) (sym (append-nil (f x))) (last r.spelled);
      same = ap (λ v. v ∷ []) r.same;
    }
listed_again {Part = Part} plain f each (comma {p = p} {ts = ts} {us = us} {x = x} {xs = xs} d ds) q =
    let r = each p ts x d q in
    let rs = listed_again plain f each ds (q + length (f x) + 1) in
    record {
      value = r.value ∷ rs.value;
      spelled = subst (λ us. Separated Part q us (r.value ∷ rs.value)) (sym (listed_comma f ds x)) (comma r.spelled rs.spelled);
      same = ap (λ v. v ∷ map plain rs.value) r.same ∙ ap (λ vs. plain x ∷ vs) rs.same;
    }

-- where the parts have no places
pub listed_spelled : {A : Type 0} {Part : ℕ → List Token → A → Type 0} {p : ℕ} {ts : List Token} {xs : List A} (f : A → Tokens)
    → ((p : ℕ) (ts : List Token) (x : A) → Part p ts x → (q : ℕ) → Part q (f x) x)
    → Separated Part p ts xs → (q : ℕ) → Separated Part q (listed f xs) xs
listed_spelled {Part = Part} f each (last {p = p} {ts = ts} {x = x} d) q = subst (λ us. Separated Part q us (x ∷ [])) (sym (append-nil (f x))) (last (each p ts x d q))
listed_spelled {Part = Part} f each (comma {p = p} {ts = ts} {us = us} {x = x} {xs = xs} d ds) q =
    subst (λ us. Separated Part q us (x ∷ xs)) (sym (listed_comma f ds x)) (comma (each p ts x d q) (listed_spelled f each ds (q + length (f x) + 1)))

-- a list that isn't empty is printed behind its words
pub clause_some : {A : Type 0} {Part : ℕ → List Token → A → Type 0} {p : ℕ} {ts : List Token} {xs : List A} (words : Tokens) (f : A → Tokens) → Separated Part p ts xs
    → printing.clause words f xs ≡ words ++ listed f xs
clause_some words f (last d) = refl
clause_some words f (comma {x = x} {xs = xs} d ds) = ap (λ b. if b then [] else words ++ listed f (x ∷ xs)) (eqb-suc-zero (length xs))

-- ---- names

pub table_spelled : (t : TableName) → IsTable (table_tokens t) t
table_spelled t = split t.schema where
  split : (a : Option (List ℕ)) → IsTable (dotted a t.name) (record { schema = a; name = t.name })
  split None = plain_table
  split (Some a) = qualified_table

pub columns_spelled : {p : ℕ} {ts : List Token} {cs : List ColumnName} → Separated IsColumnAt p ts cs → (q : ℕ) → Separated IsColumnAt q (listed column_tokens cs) cs
columns_spelled d q = listed_spelled column_tokens (λ p ts c e q. column_spelled c) d q

alias_spelled : (a : Option (List ℕ)) → IsAlias (optional (λ alias. Word w.As ∷ Name alias ∷ []) a) a
alias_spelled None = no_alias
alias_spelled (Some n) = as_alias

-- each entry is spelled by its table and its alias
entry_spelled : (h : How) (t : TableName) (a : List ℕ) → IsEntry h (table_tokens t ++ alias_tokens t.name a) (record { table = t; alias = a; how = h })
entry_spelled h t a = split (bytes_eq a t.name) refl where
  split : (b : Bool) → bytes_eq a t.name ≡ b → IsEntry h (table_tokens t ++ (if b then [] else Word w.As ∷ Name a ∷ [])) (record { table = t; alias = a; how = h })
  split true e =
      let is : a ≡ t.name = (bytes_eq-Decides a t.name).0 e in
      subst (λ n. IsEntry h (table_tokens t ++ []) (record { table = t; alias = n; how = h })) (sym is) (entry (table_spelled t) no_alias)
  split false e = entry (table_spelled t) as_alias

-- ---- items and conditions

item_again : (p : ℕ) (ts : List Token) (x : Item) → IsItem p ts x → (q : ℕ) → Respelled IsItem placeless_item q (item_tokens x) x
item_again p ts x (item {t = t} {a = a} d e) q =
    let r = expr_respelled p d q in
    record { value = record { tree = r.value; alias = a }; spelled = item r.spelled (alias_spelled a); same = ap (λ t. record { tree = t; alias = a }) r.same }

items_again : {p : ℕ} {ts : List Token} {x : Items} → AreItems p ts x → (q : ℕ) → Respelled AreItems placeless_items q (items_tokens x) x
items_again star q = record { value = Star; spelled = star; same = refl }
items_again (items d) q = let r = listed_again placeless_item item_tokens item_again d q in record { value = Listed r.value; spelled = items r.spelled; same = ap Listed r.same }

using_again : (p : ℕ) (ts : List Token) (x : UsingName) → IsUsingName p ts x → (q : ℕ) → Respelled IsUsingName placeless_using q (using_tokens x) x
using_again p ts x (using_name {n = n}) q = record { value = record { place = q; name = n }; spelled = using_name; same = refl }

cond_again : {p : ℕ} {ts : List Token} {c : Cond} → IsCond p ts c → (q : ℕ) → Respelled IsCond placeless_cond q (cond_tokens c) c
cond_again (on {p = p} d) q = let r = expr_respelled (p + 1) d (q + 1) in record { value = On r.value; spelled = on r.spelled; same = ap On r.same }
cond_again (using d) q =
    let r = listed_again placeless_using using_tokens using_again d (q + 2) in
    record { value = Using r.value; spelled = using r.spelled; same = ap Using r.same }

-- ---- FROM

cross_again : (t : TableName) (a : List ℕ) (q : ℕ) → Respelled IsJoin placeless_entry q (entry_tokens (record { table = t; alias = a; how = how.Cross })) (record { table = t; alias = a; how = how.Cross })
cross_again t a q =
    let e : FromEntry = record { table = t; alias = a; how = how.Cross } in
    let more : table_tokens t ++ alias_tokens t.name a ≡ table_tokens t ++ (alias_tokens t.name a ++ []) = ap (λ us. table_tokens t ++ us) (sym (append-nil (alias_tokens t.name a))) in
    record { value = e; spelled = subst (λ us. IsJoin q (Word w.Cross ∷ Word w.Join ∷ us) e) more (cross_join (entry_spelled how.Cross t a)); same = refl }

inner_again : (t : TableName) (a : List ℕ) (c : Cond) → ((q : ℕ) → Respelled IsCond placeless_cond q (cond_tokens c) c)
    → (q : ℕ) → Respelled IsJoin placeless_entry q (entry_tokens (record { table = t; alias = a; how = how.Inner c })) (record { table = t; alias = a; how = how.Inner c })
inner_again t a c cond q =
    let r = cond (q + 1 + length (table_tokens t ++ alias_tokens t.name a)) in
    let e : FromEntry = record { table = t; alias = a; how = how.Inner r.value } in
    let more = append_assoc (table_tokens t) (alias_tokens t.name a) (cond_tokens c) in
    record {
      value = e;
      spelled = subst (λ us. IsJoin q (Word w.Join ∷ us) e) more (join (entry_spelled (how.Inner r.value) t a) r.spelled);
      same = ap (λ c. record { table = t; alias = a; how = how.Inner c }) r.same;
    }

left_again : (t : TableName) (a : List ℕ) (c : Cond) → ((q : ℕ) → Respelled IsCond placeless_cond q (cond_tokens c) c)
    → (q : ℕ) → Respelled IsJoin placeless_entry q (entry_tokens (record { table = t; alias = a; how = how.Left c })) (record { table = t; alias = a; how = how.Left c })
left_again t a c cond q =
    let r = cond (q + 2 + length (table_tokens t ++ alias_tokens t.name a)) in
    let e : FromEntry = record { table = t; alias = a; how = how.Left r.value } in
    let more = append_assoc (table_tokens t) (alias_tokens t.name a) (cond_tokens c) in
    record {
      value = e;
      spelled = subst (λ us. IsJoin q (Word w.Left ∷ Word w.Join ∷ us) e) more (left_join (entry_spelled (how.Left r.value) t a) r.spelled);
      same = ap (λ c. record { table = t; alias = a; how = how.Left c }) r.same;
    }

join_again : {p : ℕ} {ts : List Token} {e : FromEntry} → IsJoin p ts e → (q : ℕ) → Respelled IsJoin placeless_entry q (entry_tokens e) e
join_again (comma_entry (entry {t = t} {a = a} d f)) q = cross_again t (unwrap_or a t.name) q
join_again (cross_join (entry {t = t} {a = a} d f)) q = cross_again t (unwrap_or a t.name) q
join_again (join {c = c} (entry {t = t} {a = a} d f) g) q = inner_again t (unwrap_or a t.name) c (cond_again g) q
join_again (inner_join {c = c} (entry {t = t} {a = a} d f) g) q = inner_again t (unwrap_or a t.name) c (cond_again g) q
join_again (left_join {c = c} (entry {t = t} {a = a} d f) g) q = left_again t (unwrap_or a t.name) c (cond_again g) q
join_again (left_outer_join {c = c} (entry {t = t} {a = a} d f) g) q = left_again t (unwrap_or a t.name) c (cond_again g) q

joins_again : {p : ℕ} {ts : List Token} {es : List FromEntry} → AreJoins p ts es → (q : ℕ) → Respelled AreJoins (map placeless_entry) q (flat_map entry_tokens es) es
joins_again no_joins q = record { value = []; spelled = no_joins; same = refl }
joins_again (joins {e = e} d ds) q =
    let r = join_again d q in
    let rs = joins_again ds (q + length (entry_tokens e)) in
    record {
      value = r.value ∷ rs.value;
      spelled = joins r.spelled rs.spelled;
      same = ap (λ v. v ∷ map placeless_entry rs.value) r.same ∙ ap (λ vs. placeless_entry e ∷ vs) rs.same;
    }

from_again : {p : ℕ} {ts : List Token} {es : List FromEntry} → IsFrom p ts es → (q : ℕ) → Respelled IsFrom (map placeless_entry) q (Word w.From ∷ flat_map entry_tokens es) es
from_again (from {es = es} (entry {t = t} {a = a} d f) ds) q =
    let n : List ℕ = unwrap_or a t.name in
    let first = table_tokens t ++ alias_tokens t.name n in
    let e : FromEntry = record { table = t; alias = n; how = how.First } in
    let rs = joins_again ds (q + 1 + length first) in
    let more : first ≡ entry_tokens e = ap (λ us. table_tokens t ++ us) (sym (append-nil (alias_tokens t.name n))) in
    record {
      value = e ∷ rs.value;
      spelled = subst (λ us. IsFrom q (Word w.From ∷ us ++ flat_map entry_tokens es) (e ∷ rs.value)) more (from (entry_spelled how.First t n) rs.spelled);
      same = ap (λ vs. placeless_entry e ∷ vs) rs.same;
    }

-- ---- the clauses

clause_again : (v : Reserved) {p : ℕ} {ts : List Token} {o : Option Tree} → IsClause v p ts o → (q : ℕ)
    → Respelled (IsClause v) (option_map placeless_tree) q (optional (λ tree. Word v ∷ tree_tokens tree) o) o
clause_again v no_clause q = record { value = None; spelled = no_clause; same = refl }
clause_again v (clause {p = p} d) q = let r = expr_respelled (p + 1) d (q + 1) in record { value = Some r.value; spelled = clause r.spelled; same = ap Some r.same }

groups_spelled : {p : ℕ} {ts : List Token} {cs : List ColumnName} → AreGroups p ts cs → (q : ℕ) → AreGroups q (printing.clause (Word w.Group ∷ Word w.By ∷ []) column_tokens cs) cs
groups_spelled no_groups q = no_groups
groups_spelled (groups {cs = cs} d) q = subst (λ us. AreGroups q us cs) (sym (clause_some (Word w.Group ∷ Word w.By ∷ []) column_tokens d)) (groups (columns_spelled d (q + 2)))

by_spelled : {ts : List Token} {b : KeyBy} → IsKeyBy ts b → IsKeyBy (by_tokens b) b
by_spelled by_number = by_number
by_spelled (by_column {c = c} d) = by_column (column_spelled c)

direction_spelled : (d : Bool) → IsDirection (word_if w.Desc d) d
direction_spelled true = desc
direction_spelled false = no_direction

nulls_spelled : (d n : Bool) → IsNulls d (nulls_tokens d n) n
nulls_spelled true true = no_nulls
nulls_spelled true false = nulls_last
nulls_spelled false true = nulls_first
nulls_spelled false false = no_nulls

distinct_spelled : (d : Bool) → IsDistinct (word_if w.Distinct d) d
distinct_spelled true = distinct
distinct_spelled false = all_rows

key_again : (p : ℕ) (ts : List Token) (x : OrderKey) → IsKey p ts x → (q : ℕ) → Respelled IsKey placeless_key q (key_tokens x) x
key_again p ts x (key {b = b} {d = d} {n = n} f g h) q =
    record { value = record { place = q; by = b; descending = d; nulls_first = n }; spelled = key (by_spelled f) (direction_spelled d) (nulls_spelled d n); same = refl }

keys_again : {p : ℕ} {ts : List Token} {ks : List OrderKey} → AreKeys p ts ks → (q : ℕ)
    → Respelled AreKeys (map placeless_key) q (printing.clause (Word w.Order ∷ Word w.By ∷ []) key_tokens ks) ks
keys_again no_keys q = record { value = []; spelled = no_keys; same = refl }
keys_again (keys d) q =
    let r = listed_again placeless_key key_tokens key_again d (q + 2) in
    record { value = r.value; spelled = subst (λ us. AreKeys q us r.value) (sym (clause_some (Word w.Order ∷ Word w.By ∷ []) key_tokens d)) (keys r.spelled); same = r.same }

-- ---- the whole

pub select_again : {p : ℕ} {ts : List Token} {x : Select} → IsSelect p ts x → (q : ℕ) → Respelled IsSelect placeless_select q (select_tokens x) x
select_again (select {d = d} {i = i} {f = f} {c = c} {h = h} {g = g} {o = o} dd ii ff cc_ gg hh oo) q =
    let ds = word_if w.Distinct d in
    let is = items_tokens i in
    let fs = Word w.From ∷ flat_map entry_tokens f in
    let ws = optional (λ tree. Word w.Where ∷ tree_tokens tree) c in
    let gs = printing.clause (Word w.Group ∷ Word w.By ∷ []) column_tokens g in
    let hs = optional (λ tree. Word w.Having ∷ tree_tokens tree) h in
    let ri = items_again ii (q + 1 + length ds) in
    let rf = from_again ff (q + 1 + length ds + length is) in
    let rc = clause_again w.Where cc_ (q + 1 + length ds + length is + length fs) in
    let sg = groups_spelled gg (q + 1 + length ds + length is + length fs + length ws) in
    let rh = clause_again w.Having hh (q + 1 + length ds + length is + length fs + length ws + length gs) in
    let ro = keys_again oo (q + 1 + length ds + length is + length fs + length ws + length gs + length hs) in
    record {
      value = record { distinct = d; items = ri.value; from = rf.value; filter = rc.value; groups = g; having = rh.value; order = ro.value };
      spelled = select (distinct_spelled d) ri.spelled rf.spelled rc.spelled sg rh.spelled ro.spelled;
      same =
          ap (λ v. record { distinct = d; items = v; from = map placeless_entry rf.value; filter = option_map placeless_tree rc.value; groups = g; having = option_map placeless_tree rh.value; order = map placeless_key ro.value }) ri.same
          ∙ ap (λ v. record { distinct = d; items = placeless_items i; from = v; filter = option_map placeless_tree rc.value; groups = g; having = option_map placeless_tree rh.value; order = map placeless_key ro.value }) rf.same
          ∙ ap (λ v. record { distinct = d; items = placeless_items i; from = map placeless_entry f; filter = v; groups = g; having = option_map placeless_tree rh.value; order = map placeless_key ro.value }) rc.same
          ∙ ap (λ v. record { distinct = d; items = placeless_items i; from = map placeless_entry f; filter = option_map placeless_tree c; groups = g; having = v; order = map placeless_key ro.value }) rh.same
          ∙ ap (λ v. record { distinct = d; items = placeless_items i; from = map placeless_entry f; filter = option_map placeless_tree c; groups = g; having = option_map placeless_tree h; order = v }) ro.same;
    }
