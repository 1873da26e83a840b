-- What stands in quotes, as it is defined and as it is read.
use Rattle.std.proofs.Common.{◌≡◌, ◌≢◌, ℕ, ◌<◌, ◌≤◌, Bool, true, false, cond, ◌==◌, nat_lt, inr, Some, None, List, [], ◌∷◌, ◌++◌, length, slice_index, refl, sym, ap, ◌∙◌, subst, arith, append_assoc, if◌then◌else◌}
use Rattle.std.proofs.lemmas.Bool.Decides.{nat_tests}
use Rattle.cal_value.specs.declared.limits.TheConstants.{NAME_LIMIT, TEXT_LIMIT}
use Rattle.sql_text.specs.declared.token.Token.{Token}
use Rattle.sql_text.specs.declared.token.Token.TheVariants.{Name, Text}
use Rattle.sql_text.specs.Scan.{Found, Inside, with_front, unquoted, within, name_from, text_from}
use Rattle.sql_text.specs.Tokens.{doubled, TakesQuoted, Begins}
use Rattle.sql_text.proofs.Runs.{pair_is, begins_as}

-- cs is the doubled inside, its end, and rest
Closes : ℕ → List ℕ → List ℕ → List ℕ → Type 0
Closes quote cs inside rest = (cs ≡ doubled quote inside ++ quote ∷ rest) × (slice_index rest 0 ≢ quote)

fronted : (c : ℕ) (found : Inside) (inside rest : List ℕ) → with_front (c ∷ []) found ≡ Some (inside, rest) → (more : List ℕ) × (inside ≡ c ∷ more) × (found ≡ Some (more, rest))
fronted c None inside rest e = absurd (cc)
fronted c (Some p) inside rest e = let is = pair_is _ _ _ _ e in (p.0, sym is.0, ap (λ xs. Some (p.0, xs)) is.1)

doubled_other : (quote c : ℕ) (cs : List ℕ) → (c == quote) ≡ false → doubled quote (c ∷ cs) ≡ c ∷ doubled quote cs
doubled_other quote c cs e = rw e refl

doubled_quote : (quote c : ℕ) (cs : List ℕ) → (c == quote) ≡ true → doubled quote (c ∷ cs) ≡ quote ∷ quote ∷ doubled quote cs
doubled_quote quote c cs e = rw e refl

-- the same of both states: none, and behind the first of two quotes
ReadsBoth : ℕ → List ℕ → Type 0
ReadsBoth quote cs =
    ((inside rest : List ℕ) → unquoted quote false cs ≡ Some (inside, rest) → Closes quote cs inside rest)
    × ((inside rest : List ℕ) → slice_index cs 0 ≡ quote → unquoted quote true cs ≡ Some (inside, rest) → Closes quote (quote ∷ cs) inside rest)

second : (quote c : ℕ) (cs : List ℕ) → ReadsBoth quote cs → (inside rest : List ℕ) → c ≡ quote → with_front (c ∷ []) (unquoted quote false cs) ≡ Some (inside, rest) → Closes quote (quote ∷ c ∷ cs) inside rest
unfolding ReadsBoth Closes
second quote c cs h inside rest is e =
    let p = fronted c (unquoted quote false cs) inside rest e in
    let q = h.0 p.0 rest p.2 in
    let same : (c == quote) ≡ true = grind (arith, nat_tests, is) in
    let front : doubled quote inside ++ quote ∷ rest ≡ (quote ∷ quote ∷ doubled quote p.0) ++ quote ∷ rest = ap (λ xs. doubled quote xs ++ quote ∷ rest) p.1 ∙ ap (λ xs. xs ++ quote ∷ rest) (doubled_quote quote c p.0 same) in
    (ap (λ xs. quote ∷ c ∷ xs) q.0 ∙ ap (λ x. quote ∷ x ∷ (doubled quote p.0 ++ quote ∷ rest)) is ∙ sym front, q.1)

other : (quote c : ℕ) (cs : List ℕ) → ReadsBoth quote cs → (inside rest : List ℕ) → (c == quote) ≡ false → with_front (c ∷ []) (unquoted quote false cs) ≡ Some (inside, rest) → Closes quote (c ∷ cs) inside rest
unfolding ReadsBoth Closes
other quote c cs h inside rest e is =
    let p = fronted c (unquoted quote false cs) inside rest is in
    let q = h.0 p.0 rest p.2 in
    let front : doubled quote inside ++ quote ∷ rest ≡ (c ∷ doubled quote p.0) ++ quote ∷ rest = ap (λ xs. doubled quote xs ++ quote ∷ rest) p.1 ∙ ap (λ xs. xs ++ quote ∷ rest) (doubled_other quote c p.0 e) in
    (ap (λ xs. c ∷ xs) q.0 ∙ sym front, q.1)

-- the first of two quotes, or the end
quote_first : (quote c : ℕ) (cs : List ℕ) → ReadsBoth quote cs → (inside rest : List ℕ) → (c == quote) ≡ true → (b : Bool) → (slice_index cs 0 == quote) ≡ b
    → (if b then unquoted quote true cs else Some ([], cs)) ≡ Some (inside, rest) → Closes quote (c ∷ cs) inside rest
unfolding ReadsBoth Closes
quote_first quote c cs h inside rest e true f is =
    let c_is : c ≡ quote = grind (arith, nat_tests, e) in
    let next : slice_index cs 0 ≡ quote = grind (arith, nat_tests, f) in
    let q = h.1 inside rest next is in
    (ap (λ x. x ∷ cs) c_is ∙ q.0, q.1)
quote_first quote c cs h inside rest e false f is =
    let c_is : c ≡ quote = grind (arith, nat_tests, e) in
    let p = pair_is _ _ _ _ is in
    let ends : slice_index cs 0 ≢ quote = grind (arith, nat_tests, f) in
    let E : List ℕ → Type 0 = λ xs. slice_index xs 0 ≢ quote in
    (ap (λ x. x ∷ cs) c_is ∙ ap (λ xs. quote ∷ xs) p.1 ∙ ap (λ xs. doubled quote xs ++ quote ∷ rest) p.0, subst E p.1 ends)

outside : (quote c : ℕ) (cs : List ℕ) → ReadsBoth quote cs → (inside rest : List ℕ) → (b : Bool) → (c == quote) ≡ b
    → (if b then (if slice_index cs 0 == quote then unquoted quote true cs else Some ([], cs)) else with_front (c ∷ []) (unquoted quote false cs)) ≡ Some (inside, rest) → Closes quote (c ∷ cs) inside rest
outside quote c cs h inside rest true e is = quote_first quote c cs h inside rest e (slice_index cs 0 == quote) refl is
outside quote c cs h inside rest false e is = other quote c cs h inside rest e is

reads_both : (quote : ℕ) (cs : List ℕ) → ReadsBoth quote cs
unfolding ReadsBoth
reads_both quote [] = (λ inside rest e. absurd (cc), λ inside rest first e. absurd (cc))
reads_both quote (c ∷ cs) =
    let before = reads_both quote cs in
    (λ inside rest e. outside quote c cs before inside rest (c == quote) refl e, λ inside rest first e. second quote c cs before inside rest first e)

-- what is read in quotes stands there
pub quoted_taken : (quote : ℕ) (cs inside rest : List ℕ) → unquoted quote false cs ≡ Some (inside, rest) → TakesQuoted quote (quote ∷ cs) inside rest
unfolding ReadsBoth Closes
quoted_taken quote cs inside rest e =
    let p = (reads_both quote cs).0 inside rest e in
    record { split = ap (λ xs. quote ∷ xs) (p.0 ∙ sym (append_assoc (doubled quote inside) (quote ∷ []) rest)); ends = p.1 }

-- what stands there is read
unquoted_again : (quote : ℕ) (inside rest : List ℕ) → slice_index rest 0 ≢ quote → unquoted quote false (doubled quote inside ++ quote ∷ rest) ≡ Some (inside, rest)
unquoted_again quote [] rest ends =
    let same : (quote == quote) ≡ true = grind (arith, nat_tests) in
    let differs : (slice_index rest 0 == quote) ≡ false = grind (arith, nat_tests, ends) in
    rw (same, differs) refl
unquoted_again quote (c ∷ inside) rest ends = go (c == quote) refl (unquoted_again quote inside rest ends)
  where
    go : (b : Bool) → (c == quote) ≡ b → unquoted quote false (doubled quote inside ++ quote ∷ rest) ≡ Some (inside, rest)
        → unquoted quote false ((if b then quote ∷ quote ∷ doubled quote inside else c ∷ doubled quote inside) ++ quote ∷ rest) ≡ Some (c ∷ inside, rest)
    go true e h =
        let same : (quote == quote) ≡ true = grind (arith, nat_tests) in
        let is : quote ≡ c = grind (arith, nat_tests, e) in
        rw (same, h) (ap (λ x. Some (x ∷ inside, rest)) is)
    go false e h = rw (e, h) refl

pub quoted_read : (quote : ℕ) (cs inside rest : List ℕ) → TakesQuoted quote cs inside rest → (ds : List ℕ) × (cs ≡ quote ∷ ds) × (unquoted quote false ds ≡ Some (inside, rest))
quoted_read quote cs inside rest takes =
    (doubled quote inside ++ quote ∷ rest, takes.split ∙ ap (λ xs. quote ∷ xs) (append_assoc (doubled quote inside) (quote ∷ []) rest), unquoted_again quote inside rest takes.ends)

-- ---- names and texts

kept : (most : ℕ) (found : Inside) (inside rest : List ℕ) → within most found ≡ Some (inside, rest) → (found ≡ Some (inside, rest)) × (length inside ≤ most)
kept most None inside rest e = absurd (cc)
kept most (Some p) inside rest e = go (nat_lt most (length p.0)) refl e
  where
    go : (b : Bool) → nat_lt most (length p.0) ≡ b → (if b then None else Some p) ≡ Some (inside, rest) → (◌≡◌ {A = Inside} (Some p) (Some (inside, rest))) × (length inside ≤ most)
    go true f k = absurd (cc)
    go false f k = let is = pair_is _ _ _ _ k in (k, grind (arith, nat_tests, f, ap (λ xs. length xs) is.0))

keeps : (most : ℕ) (inside rest : List ℕ) → length inside ≤ most → within most (Some (inside, rest)) ≡ Some (inside, rest)
keeps most inside rest h = let e : nat_lt most (length inside) ≡ false = grind (arith, nat_tests, h) in rw e refl

pub text_begins : (cs : List ℕ) (t : Token) (rest : List ℕ) → text_from (within TEXT_LIMIT (unquoted 39 false cs)) ≡ Some (t, rest) → Begins (39 ∷ cs) t rest
text_begins cs t rest e = go (within TEXT_LIMIT (unquoted 39 false cs)) refl e
  where
    go : (found : Inside) → within TEXT_LIMIT (unquoted 39 false cs) ≡ found → text_from found ≡ Some (t, rest) → Begins (39 ∷ cs) t rest
    go None f k = absurd (cc)
    go (Some p) f k =
        let q = kept TEXT_LIMIT (unquoted 39 false cs) p.0 p.1 f in
        begins_as (39 ∷ cs) (Text p.0) t p.1 rest (pair_is _ _ _ _ k) (q.1, quoted_taken 39 cs p.0 p.1 q.0)

pub name_begins : (cs : List ℕ) (t : Token) (rest : List ℕ) → name_from (within NAME_LIMIT (unquoted 34 false cs)) ≡ Some (t, rest) → Begins (34 ∷ cs) t rest
name_begins cs t rest e = go (within NAME_LIMIT (unquoted 34 false cs)) refl e
  where
    some : (p : List ℕ × List ℕ) → unquoted 34 false cs ≡ Some p → length p.0 ≤ NAME_LIMIT → (b : Bool) → nat_lt 0 (length p.0) ≡ b → cond {A = Found} b (Some (Name p.0, p.1)) None ≡ Some (t, rest) → Begins (34 ∷ cs) t rest
    some p f h false g k = absurd (cc)
    some p f h true g k = let more : 0 < length p.0 = grind (arith, nat_tests, g) in begins_as (34 ∷ cs) (Name p.0) t p.1 rest (pair_is _ _ _ _ k) (more, h, inr (quoted_taken 34 cs p.0 p.1 f))

    go : (found : Inside) → within NAME_LIMIT (unquoted 34 false cs) ≡ found → name_from found ≡ Some (t, rest) → Begins (34 ∷ cs) t rest
    go None f k = absurd (cc)
    go (Some p) f k = let q = kept NAME_LIMIT (unquoted 34 false cs) p.0 p.1 f in some p q.0 q.1 (nat_lt 0 (length p.0)) refl k

pub text_read : (ds inside rest : List ℕ) → unquoted 39 false ds ≡ Some (inside, rest) → length inside ≤ TEXT_LIMIT → text_from (within TEXT_LIMIT (unquoted 39 false ds)) ≡ Some (Text inside, rest)
text_read ds inside rest e h = rw (e, keeps TEXT_LIMIT inside rest h) refl

pub name_read : (ds inside rest : List ℕ) → unquoted 34 false ds ≡ Some (inside, rest) → 0 < length inside → length inside ≤ NAME_LIMIT → name_from (within NAME_LIMIT (unquoted 34 false ds)) ≡ Some (Name inside, rest)
name_read ds inside rest e some h = let more : nat_lt 0 (length inside) ≡ true = grind (arith, nat_tests, some) in rw (e, keeps NAME_LIMIT inside rest h, more) refl
