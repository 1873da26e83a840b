-- Going over the columns, the key or the rows of a table.
use Rattle.std.proofs.Common.{◌≡◌, ◌<◌, ℕ, ◌+◌, List, [], ◌∷◌, ◌++◌, Option, Some, None, Result, Ok, Err, refl, sym, ap, subst, ◌∙◌, length, drop, get_or, arith, append-nil, append_assoc, length-append}
use Rattle.std.specs.Prelude.{option_map}
use Rattle.std.proofs.lemmas.List.{at_drop_more, at_drop_all}
use Rattle.serde_json.specs.Data.{Data, Items, no_items, item}
use Rattle.serde_json.specs.Find.{as_array}
use Rattle.cal_value.specs.declared.value.Value.{Value}
use Rattle.cal_schema.specs.declared.column.ColumnDef.{ColumnDef}
use Rattle.model_fields.specs.declared.fault.ModelFault.{ModelFault}
use Rattle.model_fields.specs.Reading.{◌>>=◌, Gives, each, each_after, read_item}
use Rattle.model_fields.specs.Kinds.{of_kind}
use Rattle.model_fields.specs.KeyItems.{key_item, key_items}
use Rattle.model_fields.specs.Rows.{key_after, key, texts_of, listed, keyed, keyed_from, keyed_column, keys_from, row_key_added}

-- ---- columns with a key

pub record Keyed (ks : List ℕ) (cs done : List ColumnDef) (i : ℕ) : Type 0 where
  pub count : length done ≡ i
  pub so_far : keyed ks cs ≡ done ++ keyed_from ks i (drop i cs)

pub keyed_none : (ks : List ℕ) (cs : List ColumnDef) → Keyed ks cs [] 0
keyed_none ks cs = record { count = refl; so_far = refl }

pub keyed_one : (ks : List ℕ) (cs done : List ColumnDef) (i : ℕ) (c x : ColumnDef)
    → i < length cs → c ≡ get_or cs i c → x ≡ keyed_column ks (length done) c → Keyed ks cs done i → Keyed ks cs (done ++ x ∷ []) (i + 1)
keyed_one ks cs done i c x h is e r = record {
  count = omega (arith, r.count, length-append done (x ∷ []));
  so_far = r.so_far ∙ ap (λ k. done ++ k) (at_drop_more (λ us. keyed_from ks i us) cs i c h ∙ same) ∙ sym (append_assoc done (x ∷ []) (keyed_from ks (i + 1) (drop (i + 1) cs)));
}
  where
    same : keyed_from ks i (get_or cs i c ∷ drop (i + 1) cs) ≡ (x ∷ []) ++ keyed_from ks (i + 1) (drop (i + 1) cs)
    same = ap (λ k. k ∷ keyed_from ks (i + 1) (drop (i + 1) cs)) (ap (λ d. keyed_column ks i d) (sym is) ∙ ap (λ n. keyed_column ks n c) (sym r.count) ∙ sym e)

pub keyed_all : (ks : List ℕ) (cs done : List ColumnDef) → Keyed ks cs done (length cs) → done ≡ keyed ks cs
keyed_all ks cs done r = sym (r.so_far ∙ ap (λ k. done ++ k) (at_drop_all (λ us. keyed_from ks (length cs) us) cs (length cs) (omega arith)) ∙ append-nil done)

-- ---- the keys of rows

pub record KeysRead (ks : List ℕ) (rs keys : List (List Value)) (i : ℕ) : Type 0 where
  pub so_far : keys_from ks 0 [] rs ≡ keys_from ks i keys (drop i rs)

pub keys_none : (ks : List ℕ) (rs : List (List Value)) → KeysRead ks rs [] 0
keys_none ks rs = record { so_far = refl }

keys_at : (ks : List ℕ) (rs keys : List (List Value)) (i : ℕ) (r : List Value) → i < length rs → r ≡ get_or rs i r
    → keys_from ks i keys (drop i rs) ≡ (row_key_added ks i keys r >>= λ more. keys_from ks (i + 1) more (drop (i + 1) rs))
keys_at ks rs keys i r h is =
    at_drop_more (λ us. keys_from ks i keys us) rs i r h
    ∙ ap (λ q. row_key_added ks i keys q >>= λ more. keys_from ks (i + 1) more (drop (i + 1) rs)) (sym is)

pub keys_one : (ks : List ℕ) (rs keys more : List (List Value)) (i : ℕ) (r : List Value)
    → i < length rs → r ≡ get_or rs i r → row_key_added ks i keys r ≡ Ok more → KeysRead ks rs keys i → KeysRead ks rs more (i + 1)
keys_one ks rs keys more i r h is e k = record {
  so_far = k.so_far ∙ keys_at ks rs keys i r h is ∙ ap (λ o. o >>= λ more. keys_from ks (i + 1) more (drop (i + 1) rs)) e;
}

pub keys_stopped : (ks : List ℕ) (rs keys : List (List Value)) (i : ℕ) (r : List Value) (fault : ModelFault)
    → i < length rs → r ≡ get_or rs i r → row_key_added ks i keys r ≡ Err fault → KeysRead ks rs keys i → keys_from ks 0 [] rs ≡ Err fault
keys_stopped ks rs keys i r fault h is e k =
    k.so_far ∙ keys_at ks rs keys i r h is ∙ ap (λ o. o >>= λ more. keys_from ks (i + 1) more (drop (i + 1) rs)) e

pub keys_all : (ks : List ℕ) (rs keys : List (List Value)) → KeysRead ks rs keys (length rs) → keys_from ks 0 [] rs ≡ Ok tt
keys_all ks rs keys k = k.so_far ∙ at_drop_all (λ us. keys_from ks (length rs) keys us) rs (length rs) (omega arith)

-- ---- the key of a list of texts

after-same : {A B : Type 0} (r : Result A ModelFault) (f g : A → Result B ModelFault) → ((x : A) → f x ≡ g x) → (r >>= f) ≡ (r >>= g)
after-same (Ok x) f g same = same x
after-same (Err fault) f g same = refl

texts-read : (cs : List ColumnDef) (done : List ℕ) (ds : Items) → each_after (key_item cs) done ds ≡ key_after cs done (texts_of ds)
texts-read cs done no_items = refl
texts-read cs done (item d ds) =
    after-same (read_item (key_item cs) done d) (λ k. each_after (key_item cs) (done ++ k ∷ []) ds) (λ k. key_after cs (done ++ k ∷ []) (texts_of ds))
    (λ k. texts-read cs (done ++ k ∷ []) ds)

list-read : (cs : List ColumnDef) (o : Option Items) → (of_kind o >>= each (key_item cs)) ≡ key cs (option_map texts_of o)
list-read cs None = refl
list-read cs (Some ds) = texts-read cs [] ds

pub key-read : (cs : List ColumnDef) (d : Data) (answer : Result (List ℕ) ModelFault) → Gives (λ (ks : List ℕ). ks) answer (key_items cs d) → Gives (λ (ks : List ℕ). ks) answer (key cs (listed d))
key-read cs d answer h = subst (λ (r : Result (List ℕ) ModelFault). Gives (λ (ks : List ℕ). ks) answer r) (list-read cs (as_array d)) h
