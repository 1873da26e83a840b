-- The steps of the loops over members and sets.
use Rattle.std.proofs.Common.{◌≡◌, ℕ, ◌+◌, ◌<◌, List, [], ◌∷◌, ◌++◌, Bool, true, false, map, length, get_or, take, Option, None, refl, sym, ◌∙◌, ap, append_assoc, append-nil, cond, arith}
use Rattle.std.specs.List.{filter, flat_map, range_with_len}
use Rattle.std.specs.Prelude.{◌==◌, is_some, unwrap_or}
use Rattle.std.proofs.lemmas.Bool.{eq-eqb, ne_eqb}
use Rattle.std.proofs.lemmas.List.{take_more, map-append, map-id}
use Rattle.std.proofs.lemmas.List.Elements.{filter-append}
use Rattle.std.proofs.lemmas.List.FromFn.{map-range_with_len_more}
use Rattle.std.proofs.lemmas.Option.{slice_get_read}
use Rattle.std.proofs.lemmas.Grind.{flat_map-append}
use Rattle.cal_schema.specs.declared.rel_type.RelType.{RelType}
use Rattle.cal_rel.specs.Info.{set_at}
use Rattle.memo_model.specs.Sets as plain
use Rattle.memo_sets.specs.declared.memo.Member.{Member}
use Rattle.memo_sets.specs.Seen.{member_of}
use Rattle.explain_text.specs.Memos.{members_of}

-- ---- members

-- one member more
members_next : (members : List Member) (k i : ℕ) (d : Member) → i < length members
    → members_of (map member_of (take (i + 1) members)) k ≡ members_of (map member_of (take i members)) k ++ members_of (member_of (get_or members i d) ∷ []) k
members_next members k i d h =
    ap (λ ms. members_of (map member_of ms) k) (take_more members i d h)
    ∙ ap (λ ms. members_of ms k) (map-append member_of (take i members) (get_or members i d ∷ []))
    ∙ filter-append (λ m. m.set == k) (map member_of (take i members)) (member_of (get_or members i d) ∷ [])

-- one member more; the line of a member of another set isn't among them
lines_next : (line : plain.Member → List ℕ) (start : List ℕ) (members : List Member) (k i : ℕ) (d : Member) (b : Bool) → i < length members → d ≡ get_or members i d → (d.set == k) ≡ b
    → start ++ flat_map line (members_of (map member_of (take (i + 1) members)) k)
    ≡ (start ++ flat_map line (members_of (map member_of (take i members)) k)) ++ flat_map line (cond b (member_of d ∷ []) [])
lines_next line start members k i d b h is tested =
    let before = members_of (map member_of (take i members)) k in
    ap (λ ms. start ++ flat_map line ms) (members_next members k i d h)
    ∙ ap (λ (m : Member). start ++ flat_map line (before ++ members_of (member_of m ∷ []) k)) (sym is)
    ∙ ap (λ x. start ++ flat_map line (before ++ cond x (member_of d ∷ []) [])) tested
    ∙ ap (λ x. start ++ x) (flat_map-append line before (cond b (member_of d ∷ []) []))
    ∙ sym (append_assoc start (flat_map line before) (flat_map line (cond b (member_of d ∷ []) [])))

pub lines_with : (line : plain.Member → List ℕ) (start before new : List ℕ) (members : List Member) (k i : ℕ) (d : Member) → i < length members → d ≡ get_or members i d → d.set ≡ k
    → before ≡ start ++ flat_map line (members_of (map member_of (take i members)) k) → new ≡ before ++ line (member_of d)
    → new ≡ start ++ flat_map line (members_of (map member_of (take (i + 1) members)) k)
lines_with line start before new members k i d h is same all made =
    let so_far = start ++ flat_map line (members_of (map member_of (take i members)) k) in
    made ∙ ap (λ x. x ++ line (member_of d)) all ∙ ap (λ x. so_far ++ x) (sym (append-nil (line (member_of d))))
    ∙ sym (lines_next line start members k i d true h is (eq-eqb d.set k same))

pub lines_without : (line : plain.Member → List ℕ) (start before new : List ℕ) (members : List Member) (k i : ℕ) (d : Member) → i < length members → d ≡ get_or members i d → (d.set ≡ k → ⊥)
    → before ≡ start ++ flat_map line (members_of (map member_of (take i members)) k) → new ≡ before
    → new ≡ start ++ flat_map line (members_of (map member_of (take (i + 1) members)) k)
lines_without line start before new members k i d h is other all same =
    let so_far = start ++ flat_map line (members_of (map member_of (take i members)) k) in
    same ∙ all ∙ sym (append-nil so_far) ∙ sym (lines_next line start members k i d false h is (ne_eqb d.set k other))

-- ---- sets

numbers_more : (i : ℕ) → range_with_len 0 (i + 1) ≡ range_with_len 0 i ++ i ∷ []
numbers_more i = sym (map-id (range_with_len 0 (i + 1))) ∙ map-range_with_len_more (λ k. k) 0 i i (omega arith) ∙ ap (λ ks. ks ++ i ∷ []) (map-id (range_with_len 0 i))

-- one number more
sets_more : (types : List (Option RelType)) (i : ℕ) (x : Option RelType) → i < length types → x ≡ get_or types i x
    → filter (λ k. is_some (set_at types k)) (range_with_len 0 (i + 1)) ≡ filter (λ k. is_some (set_at types k)) (range_with_len 0 i) ++ cond (is_some x) (i ∷ []) []
sets_more types i x h is =
    let p : ℕ → Bool = λ k. is_some (set_at types k) in
    let at : set_at types i ≡ x = ap (λ o. unwrap_or o None) (slice_get_read types (length types) i x refl h is) in
    ap (filter p) (numbers_more i) ∙ filter-append p (range_with_len 0 i) (i ∷ []) ∙ ap (λ o. filter p (range_with_len 0 i) ++ cond (is_some o) (i ∷ []) []) at

pub sets_with : (types : List (Option RelType)) (i : ℕ) (x : Option RelType) (old new : List ℕ) → i < length types → x ≡ get_or types i x → is_some x ≡ true
    → old ≡ filter (λ k. is_some (set_at types k)) (range_with_len 0 i) → new ≡ old ++ i ∷ [] → new ≡ filter (λ k. is_some (set_at types k)) (range_with_len 0 (i + 1))
sets_with types i x old new h is there all made =
    made ∙ ap (λ ks. ks ++ i ∷ []) all ∙ sym (sets_more types i x h is ∙ ap (λ b. filter (λ k. is_some (set_at types k)) (range_with_len 0 i) ++ cond b (i ∷ []) []) there)

pub sets_without : (types : List (Option RelType)) (i : ℕ) (x : Option RelType) (old new : List ℕ) → i < length types → x ≡ get_or types i x → is_some x ≡ false
    → old ≡ filter (λ k. is_some (set_at types k)) (range_with_len 0 i) → new ≡ old → new ≡ filter (λ k. is_some (set_at types k)) (range_with_len 0 (i + 1))
sets_without types i x old new h is gone all same =
    same ∙ all ∙ sym (sets_more types i x h is ∙ ap (λ b. filter (λ k. is_some (set_at types k)) (range_with_len 0 i) ++ cond b (i ∷ []) []) gone
    ∙ append-nil (filter (λ k. is_some (set_at types k)) (range_with_len 0 i)))
