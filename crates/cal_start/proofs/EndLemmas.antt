-- From the parts to the whole start.
use Rattle.std.proofs.Common.{◌≡◌, ℕ, List, [], ◌∷◌, ◌++◌, Result, sym, ap, ◌∙◌, subst}
use Rattle.cal_outside.specs.Store.{StoreState, IsLater}
use Rattle.model_json.specs.declared.model.ModelDoc.{ModelDoc}
use Rattle.serde_json.specs.View.{view}
use Rattle.cal_start.specs.Ends.{AreRead, IsNext, EachAfter, EndCause}
use Rattle.cal_start.specs.Next.{Next, after_model, next_in, next_of}
use Rattle.cal_start.specs.Parts.{TablesSay, ModelRead, Ended}
use Rattle.cal_start.specs.declared.fault.StartFault.{StartFault}
use Rattle.cal_start.specs.declared.files.FileRead.{FileRead}
use Rattle.cal_start.specs.declared.run.Started.{Started}
use Rattle.cal_start.proofs.ReadLemmas.{EachAfter-cons, next_for_later, cause_for_later}

-- a and b are the store before and after the model was read, and c is it at the end
pub ended : (a b c : StoreState) (name : List ℕ) (doc : ModelDoc) (before files : List FileRead) (result : Result Started StartFault)
    → IsLater a b → ModelRead a name before doc → TablesSay b c (view doc.json) before files result → Ended a c name files result
ended a b c name doc before files result p m s =
    let file : FileRead = record { name = name; bytes = m.bytes } in
    let same : (ts : List FileRead) → next_of name (file ∷ ts) ≡ next_in (view doc.json) ts = λ ts. ap (λ r. after_model r ts) m.is_model in
    let whole : files ≡ file ∷ s.tables = s.kept ∙ ap (λ fs. fs ++ s.tables) m.kept in
    let first : IsNext a (next_of name []) file = (subst (λ (fs : List FileRead). AreRead a (next_of name) fs) m.kept m.read).0 in
    let later : EachAfter (λ before file. IsNext a (next_of name before) file) (file ∷ []) s.tables =
    EachAfter-cons _ _ file (λ ts f n. subst (λ (x : Next). IsNext a x f) (sym (same ts)) (next_for_later a b _ f p n)) [] s.tables s.read in
    record {
      read = subst (λ (fs : List FileRead). AreRead a (next_of name) fs) (sym whole) (first, later);
      cause = subst (λ (x : Next). EndCause a c x result) (sym (same s.tables) ∙ ap (next_of name) (sym whole)) (cause_for_later a b c _ result p s.cause);
    }
