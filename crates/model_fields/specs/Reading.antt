-- Reading a document: what is meant, or the first fault with its path.
use Rattle.std.specs.Prelude.{◌≡◌, ◌≢◌, ℕ, ◌+◌, List, [], ◌∷◌, ◌++◌, length, Option, Some, None, Result, Ok, Err}
use Rattle.std.specs.Fmt.{decimal}
use Rattle.serde_json.specs.Data.{Data, Items, no_items, item}
use Rattle.serde_json.specs.Find.{get}
use Rattle.model_fields.specs.declared.fault.ModelCause.{ModelCause}
use Rattle.model_fields.specs.declared.fault.ModelCause.TheVariants.{Missing}
use Rattle.model_fields.specs.declared.fault.ModelFault.{ModelFault}
use Rattle.model_fields.specs.declared.fault.ModelFault.TheVariants.{NotJson, BadModel, NoMemory}

-- the fault is this one, or want of memory
abbrev pub IsFault : ModelFault → ModelFault → Type 0
IsFault given meant = given ≢ NoMemory → given ≡ meant

-- the answer, seen by `view`, is what is meant, or want of memory
abbrev pub Gives : {X Y : Type 0} → (X → Y) → Result X ModelFault → Result Y ModelFault → Type 0
Gives view (Ok x) meant = meant ≡ Ok (view x)
Gives view (Err e) meant = e ≢ NoMemory → meant ≡ Err e

-- ---- one after another: the first fault is told

infixl 10 ◌>>=◌
abbrev pub ◌>>=◌ : {A B : Type 0} → Result A ModelFault → (A → Result B ModelFault) → Result B ModelFault
(Ok x) >>= f = f x
(Err e) >>= f = Err e

-- a fault of the value itself
abbrev pub bad : {A : Type 0} → ModelCause → Result A ModelFault
bad cause = Err (BadModel [] cause)

-- ---- paths

-- the fault of a part, told of the whole: `/`, the part's name or number, and the path in the part
abbrev pub inside : List ℕ → ModelFault → ModelFault
inside step (BadModel path cause) = BadModel (47 ∷ step ++ path) cause
inside step NotJson = NotJson
inside step NoMemory = NoMemory

abbrev pub under : {A : Type 0} → List ℕ → Result A ModelFault → Result A ModelFault
under step (Ok x) = Ok x
under step (Err e) = Err (inside step e)

-- ---- members of an object

abbrev pub read_at : {A : Type 0} → List ℕ → (Data → Result A ModelFault) → Result A ModelFault → Option Data → Result A ModelFault
read_at key rule absent None = absent
read_at key rule absent (Some d) = under key (rule d)

-- a member that has to be there
abbrev pub field : {A : Type 0} → List ℕ → (Data → Result A ModelFault) → Data → Result A ModelFault
field key rule d = read_at key rule (Err (BadModel (47 ∷ key) Missing)) (get key d)

-- a member that may be absent
abbrev pub optional : {A : Type 0} → List ℕ → A → (Data → Result A ModelFault) → Data → Result A ModelFault
optional key default rule d = read_at key rule (Ok default) (get key d)

-- ---- items of a list

-- the item that comes after those that were read
abbrev pub read_item : {A : Type 0} → (List A → Data → Result A ModelFault) → List A → Data → Result A ModelFault
read_item rule done d = under (decimal (length done)) (rule done d)

-- the items in order. The rule of an item sees what was read of those before it, whose number is the item's own
abbrev pub each_after : {A : Type 0} → (List A → Data → Result A ModelFault) → List A → Items → Result (List A) ModelFault
each_after rule done no_items = Ok done
each_after rule done (item d ds) = read_item rule done d >>= λ x. each_after rule (done ++ x ∷ []) ds

abbrev pub each : {A : Type 0} → (List A → Data → Result A ModelFault) → Items → Result (List A) ModelFault
each rule ds = each_after rule [] ds

abbrev pub item_in_turn : {S : Type 0} → (ℕ → S → Data → Result S ModelFault) → ℕ → S → Data → Result S ModelFault
item_in_turn rule n s d = under (decimal n) (rule n s d)

-- the items in order, where the rule takes the item's number and what stands so far, and answers what stands then
abbrev pub in_turn : {S : Type 0} → (ℕ → S → Data → Result S ModelFault) → ℕ → S → Items → Result S ModelFault
in_turn rule n s no_items = Ok s
in_turn rule n s (item d ds) = item_in_turn rule n s d >>= λ next. in_turn rule (n + 1) next ds
