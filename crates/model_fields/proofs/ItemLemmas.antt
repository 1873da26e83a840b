-- Reading the items of a list one after another.
use Rattle.std.proofs.Common.{◌≡◌, ◌<◌, ℕ, suc, ◌+◌, List, [], ◌∷◌, ◌++◌, Result, Ok, Err, refl, sym, ap, ◌∙◌, length, drop, get_or, arith}
use Rattle.std.proofs.lemmas.List.{at_drop_more, at_drop_all}
use Rattle.serde_json.specs.Data.{Data}
use Rattle.serde_json.specs.declared.value.Value.{Value}
use Rattle.serde_json.specs.View.{view, items_view}
use Rattle.model_fields.specs.declared.fault.ModelFault.{ModelFault}
use Rattle.model_fields.specs.Reading.{◌>>=◌, each, each_after, read_item, in_turn, item_in_turn}
use Rattle.model_fields.specs.Kinds.{count}

pub count_items : (vs : List Value) → count (items_view vs) ≡ length vs
count_items [] = refl
count_items (v ∷ vs) = ap suc (count_items vs)

-- the items before place i were read as `done`
pub record Reads {A : Type 0} (rule : List A → Data → Result A ModelFault) (vs : List Value) (done : List A) (i : ℕ) : Type 0 where
  pub so_far : each rule (items_view vs) ≡ each_after rule done (items_view (drop i vs))

pub reads_none : {A : Type 0} (rule : List A → Data → Result A ModelFault) (vs : List Value) → Reads rule vs [] 0
reads_none rule vs = record { so_far = refl }

each_at : {A : Type 0} (rule : List A → Data → Result A ModelFault) (vs : List Value) (done : List A) (i : ℕ) (v : Value) → i < length vs → v ≡ get_or vs i v
    → each_after rule done (items_view (drop i vs)) ≡ (read_item rule done (view v) >>= λ x. each_after rule (done ++ x ∷ []) (items_view (drop (i + 1) vs)))
each_at rule vs done i v h is =
    at_drop_more (λ us. each_after rule done (items_view us)) vs i v h
    ∙ ap (λ w. read_item rule done (view w) >>= λ x. each_after rule (done ++ x ∷ []) (items_view (drop (i + 1) vs))) (sym is)

pub reads_one : {A : Type 0} (rule : List A → Data → Result A ModelFault) (vs : List Value) (done : List A) (i : ℕ) (v : Value) (x : A)
    → i < length vs → v ≡ get_or vs i v → read_item rule done (view v) ≡ Ok x → Reads rule vs done i → Reads rule vs (done ++ x ∷ []) (i + 1)
reads_one rule vs done i v x h is e r = record {
  so_far = r.so_far ∙ each_at rule vs done i v h is ∙ ap (λ o. o >>= λ x. each_after rule (done ++ x ∷ []) (items_view (drop (i + 1) vs))) e;
}

pub reads_stopped : {A : Type 0} (rule : List A → Data → Result A ModelFault) (vs : List Value) (done : List A) (i : ℕ) (v : Value) (fault : ModelFault)
    → i < length vs → v ≡ get_or vs i v → read_item rule done (view v) ≡ Err fault → Reads rule vs done i → each rule (items_view vs) ≡ Err fault
reads_stopped rule vs done i v fault h is e r =
    r.so_far ∙ each_at rule vs done i v h is ∙ ap (λ o. o >>= λ x. each_after rule (done ++ x ∷ []) (items_view (drop (i + 1) vs))) e

pub reads_all : {A : Type 0} (rule : List A → Data → Result A ModelFault) (vs : List Value) (done : List A) → Reads rule vs done (length vs) → each rule (items_view vs) ≡ Ok done
reads_all rule vs done r = r.so_far ∙ at_drop_all (λ us. each_after rule done (items_view us)) vs (length vs) (omega arith)

-- ---- items in turn

-- the items before place i led from `start` to `s`
pub record Turns {S : Type 0} (rule : ℕ → S → Data → Result S ModelFault) (vs : List Value) (start s : S) (i : ℕ) : Type 0 where
  pub so_far : in_turn rule 0 start (items_view vs) ≡ in_turn rule i s (items_view (drop i vs))

pub turns_none : {S : Type 0} (rule : ℕ → S → Data → Result S ModelFault) (vs : List Value) (s : S) → Turns rule vs s s 0
turns_none rule vs s = record { so_far = refl }

turn_at : {S : Type 0} (rule : ℕ → S → Data → Result S ModelFault) (vs : List Value) (s : S) (i : ℕ) (v : Value) → i < length vs → v ≡ get_or vs i v
    → in_turn rule i s (items_view (drop i vs)) ≡ (item_in_turn rule i s (view v) >>= λ next. in_turn rule (i + 1) next (items_view (drop (i + 1) vs)))
turn_at rule vs s i v h is =
    at_drop_more (λ us. in_turn rule i s (items_view us)) vs i v h
    ∙ ap (λ w. item_in_turn rule i s (view w) >>= λ next. in_turn rule (i + 1) next (items_view (drop (i + 1) vs))) (sym is)

pub turns_one : {S : Type 0} (rule : ℕ → S → Data → Result S ModelFault) (vs : List Value) (start s next : S) (i : ℕ) (v : Value)
    → i < length vs → v ≡ get_or vs i v → item_in_turn rule i s (view v) ≡ Ok next → Turns rule vs start s i → Turns rule vs start next (i + 1)
turns_one rule vs start s next i v h is e t = record {
  so_far = t.so_far ∙ turn_at rule vs s i v h is ∙ ap (λ o. o >>= λ next. in_turn rule (i + 1) next (items_view (drop (i + 1) vs))) e;
}

pub turns_stopped : {S : Type 0} (rule : ℕ → S → Data → Result S ModelFault) (vs : List Value) (start s : S) (i : ℕ) (v : Value) (fault : ModelFault)
    → i < length vs → v ≡ get_or vs i v → item_in_turn rule i s (view v) ≡ Err fault → Turns rule vs start s i → in_turn rule 0 start (items_view vs) ≡ Err fault
turns_stopped rule vs start s i v fault h is e t =
    t.so_far ∙ turn_at rule vs s i v h is ∙ ap (λ o. o >>= λ next. in_turn rule (i + 1) next (items_view (drop (i + 1) vs))) e

pub turns_all : {S : Type 0} (rule : ℕ → S → Data → Result S ModelFault) (vs : List Value) (start s : S) → Turns rule vs start s (length vs) → in_turn rule 0 start (items_view vs) ≡ Ok s
turns_all rule vs start s t = t.so_far ∙ at_drop_all (λ us. in_turn rule (length vs) s (items_view us)) vs (length vs) (omega arith)
