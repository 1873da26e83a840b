-- What an answer of a reading says of its parts.
use Rattle.std.proofs.Common.{◌≡◌, ℕ, ◌+◌, List, [], ◌∷◌, ◌++◌, length, Option, Some, None, Result, Ok, Err, ◌⊎◌, refl, ap, subst, arith, inl, inr}
use Rattle.std.proofs.lemmas.List.{length_push}
use Rattle.serde_json.specs.Data.{Data, Items, no_items, item}
use Rattle.serde_json.specs.Find.{get}
use Rattle.model_fields.specs.declared.fault.ModelCause.TheVariants.{Missing}
use Rattle.model_fields.specs.declared.fault.ModelFault.{ModelFault}
use Rattle.model_fields.specs.declared.fault.ModelFault.TheVariants.{BadModel}
use Rattle.model_fields.specs.Reading.{◌>>=◌, under, read_at, field, optional, read_item, each_after, item_in_turn, in_turn}
use Rattle.model_fields.specs.Kinds.{count}

-- the first reading gave something, from which the second gave the answer
pub record Steps {A B : Type 0} (r : Result A ModelFault) (f : A → Result B ModelFault) (y : B) : Type 0 where
  pub found : A
  pub first : r ≡ Ok found
  pub then : f found ≡ Ok y

pub steps : {A B : Type 0} (r : Result A ModelFault) (f : A → Result B ModelFault) (y : B) → (r >>= f) ≡ Ok y → Steps r f y
steps (Ok x) f y e = record { found = x; first = refl; then = e }
steps (Err fault) f y e = absurd (Prim.cc)

pub under-is : {A : Type 0} (step : List ℕ) (r : Result A ModelFault) (x : A) → under step r ≡ Ok x → r ≡ Ok x
under-is step (Ok y) x e = e
under-is step (Err fault) x e = absurd (Prim.cc)

-- the rule gave the answer for some value
pub record Ruled {A : Type 0} (rule : Data → Result A ModelFault) (x : A) : Type 0 where
  pub value : Data
  pub is : rule value ≡ Ok x

field_at : {A : Type 0} (key : List ℕ) (rule : Data → Result A ModelFault) (x : A) (o : Option Data) → read_at key rule (Err (BadModel (47 ∷ key) Missing)) o ≡ Ok x → Ruled rule x
field_at key rule x None e = absurd (Prim.cc)
field_at key rule x (Some d) e = record { value = d; is = under-is key (rule d) x e }

pub field-is : {A : Type 0} (key : List ℕ) (rule : Data → Result A ModelFault) (x : A) (d : Data) → field key rule d ≡ Ok x → Ruled rule x
field-is key rule x d e = field_at key rule x (get key d) e

optional_at : {A : Type 0} (key : List ℕ) (default : A) (rule : Data → Result A ModelFault) (x : A) (o : Option Data) → read_at key rule (Ok default) o ≡ Ok x → (default ≡ x) ⊎ Ruled rule x
optional_at key default rule x None e = inl Prim.cc
optional_at key default rule x (Some d) e = inr (record { value = d; is = under-is key (rule d) x e })

pub optional-is : {A : Type 0} (key : List ℕ) (default : A) (rule : Data → Result A ModelFault) (x : A) (d : Data) → optional key default rule d ≡ Ok x → (default ≡ x) ⊎ Ruled rule x
optional-is key default rule x d e = optional_at key default rule x (get key d) e

-- ---- lists

-- what each step keeps holds of what all items give
pub each-keeps : {A : Type 0} (P : List A → Type 0) (rule : List A → Data → Result A ModelFault) → ((done : List A) (d : Data) (x : A) → P done → rule done d ≡ Ok x → P (done ++ x ∷ []))
    → (done : List A) (ds : Items) (xs : List A) → P done → each_after rule done ds ≡ Ok xs → P xs
each-keeps P rule step done no_items xs h e = let same : done ≡ xs = Prim.cc in subst P same h
each-keeps P rule step done (item d ds) xs h e =
    let s = steps (read_item rule done d) (λ x. each_after rule (done ++ x ∷ []) ds) xs e in
    each-keeps P rule step (done ++ s.found ∷ []) ds xs (step done d s.found h (under-is _ (rule done d) s.found s.first)) s.then

-- an item each
pub each-count : {A : Type 0} (rule : List A → Data → Result A ModelFault) (done : List A) (ds : Items) (xs : List A) → each_after rule done ds ≡ Ok xs → length xs ≡ length done + count ds
each-count rule done no_items xs e = let same : done ≡ xs = Prim.cc in omega (arith, ap length same)
each-count rule done (item d ds) xs e =
    let s = steps (read_item rule done d) (λ x. each_after rule (done ++ x ∷ []) ds) xs e in
    omega (arith, each-count rule (done ++ s.found ∷ []) ds xs s.then, length_push done s.found)

pub turns-keep : {S : Type 0} (P : S → Type 0) (rule : ℕ → S → Data → Result S ModelFault) → ((n : ℕ) (s : S) (d : Data) (next : S) → P s → rule n s d ≡ Ok next → P next)
    → (n : ℕ) (s : S) (ds : Items) (last : S) → P s → in_turn rule n s ds ≡ Ok last → P last
turns-keep P rule step n s no_items last h e = let same : s ≡ last = Prim.cc in subst P same h
turns-keep P rule step n s (item d ds) last h e =
    let t = steps (item_in_turn rule n s d) (λ next. in_turn rule (n + 1) next ds) last e in
    turns-keep P rule step (n + 1) t.found ds last (step n s d t.found h (under-is _ (rule n s d) t.found t.first)) t.then
