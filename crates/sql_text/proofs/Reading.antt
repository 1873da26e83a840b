-- A text has one list of tokens, or one place where none begins.
use Rattle.std.proofs.Common.{◌≡◌, ◌≢◌, ℕ, zero, suc, pos, ◌≤ℤ◌, ◌<ℤ◌, ◌⊎◌, ◌-◌, ◌<◌, ◌≤◌, Bool, true, false, ◌==◌, Some, None, Result, Ok, Err, IfOk, IfErr, List, [], ◌∷◌, ◌++◌, length, drop, refl, sym, ap, ◌∙◌, subst, arith, append_assoc, inl, inr}
use Rattle.std.specs.List.{All, AllByRecursion}
use Rattle.std.specs.Str.Parse.{digits_value}
use Rattle.std.proofs.lemmas.Bool.{cases_lt}
use Rattle.std.proofs.lemmas.Bool.Decides.{nat_tests}
use Rattle.std.proofs.lemmas.Int.{ints}
use Rattle.std.proofs.lemmas.List.Elements.{All-from_recursion}
use Rattle.std.proofs.lemmas.List.{length-append, length-drop, drop_at, drop_all}
use Rattle.cal_value.specs.Interval.{limit}
use Rattle.sql_text.specs.declared.token.Token.{Token}
use Rattle.sql_text.specs.declared.token.Token.TheVariants.{Name, Word, Number, Text, Symbol as SymbolToken}
use Rattle.sql_text.specs.declared.scan.TokenFault.{TokenFault}
use Rattle.sql_text.specs.declared.scan.TokenFault.TheVariants.{NotToken, NoMemory}
use Rattle.sql_text.specs.Scan.{Found, skipped, token_of}
use Rattle.sql_text.specs.Tokens.{Skips, IsEnd, nothing, Begins, Reads, none, token, HasTokens, BeginsNothing, StopsAt, IsTokenFaultOf, IsToken}
use Rattle.sql_text.proofs.Front.{token_begins, token_read, token_stands, token_front}
use Rattle.sql_text.proofs.Runs.{pair_is}
use Rattle.sql_text.proofs.Space.{skipped_along, skipped_end, reaches_end, reaches_on, no_space, skips_front, skipped_le}

-- ---- what comes next

next_end : {cs last : List ℕ} → Skips cs last → IsEnd last → skipped false cs ≡ []
next_end s e = skipped_along s ∙ skipped_end e

next_token : {cs here : List ℕ} (t : Token) (more : List ℕ) → Skips cs here → Begins here t more → token_of (skipped false cs) ≡ Some (t, more)
next_token {cs} {here} t more s b = ap token_of (skipped_along s ∙ token_stands here t more b) ∙ token_read here t more b

nothing_stands : (cs : List ℕ) → BeginsNothing cs → skipped false cs ≡ cs
nothing_stands cs stops = go (skipped false cs) refl
  where
    go : (left : List ℕ) → skipped false cs ≡ left → left ≡ cs
    go [] e = let p = reaches_end cs e in absurd (stops.no_end (subst IsEnd (sym (stops.no_space p.0 p.1)) p.2))
    go (d ∷ ds) e = sym (stops.no_space (d ∷ ds) (reaches_on cs d ds e))

next_nothing : {cs here : List ℕ} → Skips cs here → BeginsNothing here → skipped false cs ≡ here
next_nothing {cs} {here} s stops = skipped_along s ∙ nothing_stands here stops

no_token_at_end : token_of [] ≡ None
unfolding token_of
no_token_at_end = refl

end_or_token : (left : List ℕ) (t : Token) (more : List ℕ) → left ≡ [] → token_of left ≡ Some (t, more) → ⊥
end_or_token left t more e f = let at : token_of left ≡ None = ap token_of e ∙ no_token_at_end in absurd (cc)

one_token : (cs : List ℕ) (t u : Token) (r s : List ℕ) → token_of cs ≡ Some (t, r) → token_of cs ≡ Some (u, s) → (t ≡ u) × (r ≡ s)
one_token cs t u r s e f = pair_is t u r s (sym e ∙ f)

-- ---- at most one list of tokens

pub reads_once : {cs rest other last end : List ℕ} {ts us : List Token} → Reads cs ts rest → Skips rest last → IsEnd last → Reads cs us other → Skips other end → IsEnd end → us ≡ ts
reads_once none s e none z f = refl
reads_once none s e (token {t = u} here more y b r) z f = absurd (end_or_token _ u more (next_end s e) (next_token u more y b))
reads_once (token {t} here more s b r) y e none z f = absurd (end_or_token _ t more (next_end z f) (next_token t more s b))
reads_once (token {cs} {rest} {t} {ts} here more s b r) x e (token {rest = other} {t = u} {ts = us} there after y c q) z f =
    let same = one_token (skipped false cs) u t after more (next_token u after y c) (next_token t more s b) in
    let R : List ℕ → Type 0 = λ xs. Reads xs us other in
    let tails : us ≡ ts = reads_once r x e (subst R same.1 q) z f in
    ap (λ v. v ∷ us) same.0 ∙ ap (λ xs. t ∷ xs) tails

-- ---- never both

pub reads_or_stops : {cs rest last other bad : List ℕ} {ts us : List Token} → Reads cs ts rest → Skips rest last → IsEnd last → Reads cs us other → Skips other bad → BeginsNothing bad → ⊥
reads_or_stops none s e none z stops = stops.no_end (subst IsEnd (sym (next_end s e) ∙ next_nothing z stops) nothing)
reads_or_stops none s e (token {t = u} here more y b r) z stops = end_or_token _ u more (next_end s e) (next_token u more y b)
reads_or_stops (token {t} here more s b r) y e none z stops =
    stops.no_token t more (token_begins _ t more (nothing_stands _ stops) (sym (ap token_of (next_nothing z stops)) ∙ next_token t more s b))
reads_or_stops (token {cs} {rest} {t} {ts} here more s b r) x e (token {rest = other} {t = u} {ts = us} there after y c q) z stops =
    let same = one_token (skipped false cs) u t after more (next_token u after y c) (next_token t more s b) in
    let R : List ℕ → Type 0 = λ xs. Reads xs us other in
    reads_or_stops r x e (subst R same.1 q) z stops

-- ---- one place where none begins

pub stops_once : {cs rest bad other worse : List ℕ} {ts us : List Token} → Reads cs ts rest → Skips rest bad → BeginsNothing bad → Reads cs us other → Skips other worse → BeginsNothing worse → worse ≡ bad
stops_once none s stops none z halts = sym (next_nothing z halts) ∙ next_nothing s stops
stops_once none s stops (token {t = u} here more y b r) z halts =
    absurd (stops.no_token u more (token_begins _ u more (nothing_stands _ stops) (sym (ap token_of (next_nothing s stops)) ∙ next_token u more y b)))
stops_once (token {t} here more s b r) y stops none z halts =
    absurd (halts.no_token t more (token_begins _ t more (nothing_stands _ halts) (sym (ap token_of (next_nothing z halts)) ∙ next_token t more s b)))
stops_once (token {cs} {rest} {t} {ts} here more s b r) x stops (token {rest = other} {t = u} {ts = us} there after y c q) z halts =
    let same = one_token (skipped false cs) u t after more (next_token u after y c) (next_token t more s b) in
    let R : List ℕ → Type 0 = λ xs. Reads xs us other in
    stops_once r x stops (subst R same.1 q) z halts

-- ---- as far as one has read

pub reads_more : {cs rest : List ℕ} {ts : List Token} (t : Token) (here more : List ℕ) → Reads cs ts rest → Skips rest here → Begins here t more → Reads cs (ts ++ t ∷ []) more
reads_more t here more none s b = token here more s b none
reads_more t here more (token there after y c r) s b = token there after y c (reads_more t here more r s b)

pub reads_front : {cs rest : List ℕ} {ts : List Token} → Reads cs ts rest → (front : List ℕ) × (cs ≡ front ++ rest)
reads_front none = ([], refl)
reads_front (token {cs} {rest} {t} here more s b r) =
    let p = skips_front s in
    let q = token_front here t more b in
    let z = reads_front r in
    (p.0 ++ (q.0 ++ z.0), p.1 ∙ ap (λ xs. p.0 ++ xs) (q.1 ∙ ap (λ xs. q.0 ++ xs) z.1 ∙ sym (append_assoc q.0 z.0 rest)) ∙ sym (append_assoc p.0 (q.0 ++ z.0) rest))

pub rest_at : (front rest cs : List ℕ) → cs ≡ front ++ rest → drop (length cs - length rest) cs ≡ rest
rest_at front rest cs e =
    let len : length front ≡ length cs - length rest = omega (arith, length-append front rest, ap (λ xs. length xs) e) in
    ap (drop (length cs - length rest)) e ∙ drop_at front rest (length cs - length rest) len

-- the tokens were read, and rest is what is left behind the white space that follows them
pub record IsOn (cs : List ℕ) (ts : List Token) (rest : List ℕ) : Type 0 where
  behind : List ℕ
  reads : Reads cs ts behind
  is : rest ≡ skipped false behind

pub on_start : (cs rest : List ℕ) → rest ≡ skipped false cs → IsOn cs [] rest
on_start cs rest is = record { behind = cs; reads = none; is = is }

-- what is left begins where the white space ends
stands_on : (behind rest : List ℕ) → rest ≡ skipped false behind → rest ≢ [] → Skips behind rest
stands_on behind [] is more = absurd (more refl)
stands_on behind (d ∷ ds) is more = reaches_on behind d ds (sym is)

pub on_le : {cs : List ℕ} {ts : List Token} {rest : List ℕ} → IsOn cs ts rest → length rest ≤ length cs
on_le {cs} {ts} {rest} on = let p = reads_front on.reads in omega (arith, length-append p.0 on.behind, ap (λ xs. length xs) p.1, skipped_le false on.behind, ap (λ xs. length xs) on.is)

pub on_more : {cs : List ℕ} {ts : List Token} {rest : List ℕ} (t : Token) (more next : List ℕ) → IsOn cs ts rest → rest ≢ [] → token_of rest ≡ Some (t, more) → next ≡ skipped false more → IsOn cs (ts ++ t ∷ []) next
on_more {cs} {ts} {rest} t more next on some found is =
    let s = stands_on on.behind rest on.is some in
    let stand : skipped false rest ≡ rest = sym (skipped_along s) ∙ sym on.is in
    record { behind = more; reads = reads_more t rest more on.reads s (token_begins rest t more stand found); is = is }

pub on_shorter : {cs : List ℕ} {ts : List Token} {rest : List ℕ} (t : Token) (more next : List ℕ) → IsOn cs ts rest → rest ≢ [] → token_of rest ≡ Some (t, more) → next ≡ skipped false more → length next < length rest
on_shorter {cs} {ts} {rest} t more next on some found is =
    let s = stands_on on.behind rest on.is some in
    let stand : skipped false rest ≡ rest = sym (skipped_along s) ∙ sym on.is in
    let p = token_front rest t more (token_begins rest t more stand found) in
    omega (arith, length-append p.0 more, ap (λ xs. length xs) p.1, p.2, skipped_le false more, ap (λ xs. length xs) is)

pub on_end : {cs : List ℕ} {ts : List Token} {rest : List ℕ} → IsOn cs ts rest → rest ≡ [] → HasTokens cs ts
on_end {cs} {ts} {rest} on done =
    let p = reaches_end on.behind (sym on.is ∙ done) in
    record { rest = on.behind; last = p.0; reads = on.reads; skips = p.1; ends = p.2 }

pub on_stop : {cs : List ℕ} {ts : List Token} {rest : List ℕ} → IsOn cs ts rest → rest ≢ [] → token_of rest ≡ None → StopsAt cs (length cs - length rest)
on_stop {cs} {ts} {rest} on some none_here =
    let s = stands_on on.behind rest on.is some in
    let stand : skipped false rest ≡ rest = sym (skipped_along s) ∙ sym on.is in
    let front = reads_front on.reads in
    let skip = skips_front s in
    let all : cs ≡ (front.0 ++ skip.0) ++ rest = front.1 ∙ ap (λ xs. front.0 ++ xs) skip.1 ∙ sym (append_assoc front.0 skip.0 rest) in
    let here : drop (length cs - length rest) cs ≡ rest = rest_at (front.0 ++ skip.0) rest cs all in
    let S : List ℕ → Type 0 = λ xs. Skips on.behind xs in
    record {
      before = ts;
      rest = on.behind;
      reads = on.reads;
      skips = subst S (sym here) s;
      stops = subst BeginsNothing (sym here) (record {
        no_end = λ e. some (sym stand ∙ skipped_end e);
        no_space = λ xs t. no_space stand t;
        no_token = λ t xs b. absurd (cc (token_read rest t xs b));
      });
    }

-- ---- the laws

pub only_tokens : (cs : List ℕ) (ts us : List Token) → HasTokens cs ts → HasTokens cs us → us ≡ ts
only_tokens cs ts us h k = reads_once h.reads h.skips h.ends k.reads k.skips k.ends

pub tokens_or_fault : (cs : List ℕ) (ts : List Token) (at : ℕ) → HasTokens cs ts → StopsAt cs at → ⊥
tokens_or_fault cs ts at h k = reads_or_stops h.reads h.skips h.ends k.reads k.skips k.stops

pub no_tokens : (cs : List ℕ) (fault : TokenFault) → IsTokenFaultOf cs fault → fault ≢ NoMemory → (ts : List Token) → HasTokens cs ts → ⊥
no_tokens cs (NotToken at) h no_memory ts k = tokens_or_fault cs ts at k h
no_tokens cs NoMemory h no_memory ts k = no_memory refl

-- the clauses of an answer that has tokens or a fault
pub only_answer : (r : Result (List Token) TokenFault) (all cs : List ℕ) → all ≡ cs → IfOk r (HasTokens all) → IfOk r (λ ts. (us : List Token) → HasTokens cs us → us ≡ ts)
only_answer (Ok ts) all cs is h = λ us k. let H : List ℕ → Type 0 = λ xs. HasTokens xs us in only_tokens all ts us h (subst H (sym is) k)
only_answer (Err e) all cs is h = tt

pub none_answer : (r : Result (List Token) TokenFault) (all cs : List ℕ) → all ≡ cs → IfErr r (IsTokenFaultOf all) → IfErr r (λ fault. fault ≢ NoMemory → (ts : List Token) → HasTokens cs ts → ⊥)
none_answer (Ok ts) all cs is h = tt
none_answer (Err e) all cs is h = λ no_memory ts k. let H : List ℕ → Type 0 = λ xs. HasTokens xs ts in no_tokens all e h no_memory ts (subst H (sym is) k)

short_end : (cs : List ℕ) (a : ℕ) → BeginsNothing (drop a cs) → a < length cs
short_end cs a stops = elim (cases_lt a (length cs)) [ inl h ↦ h | inr h ↦ absurd (stops.no_end (subst IsEnd (sym (drop_all a cs h)) nothing)) ]

pub one_fault : (cs : List ℕ) (a b : ℕ) → StopsAt cs a → StopsAt cs b → a ≡ b
one_fault cs a b h k =
    let same = stops_once h.reads h.skips h.stops k.reads k.skips k.stops in
    omega (arith, short_end cs a h.stops, short_end cs b k.stops, length-drop a cs, length-drop b cs, ap (λ xs. length xs) same)

-- ---- the end of a list, by its length

pub goes_on : (xs : List ℕ) (b : Bool) → b ≡ (length xs == 0) → b ≡ false → xs ≢ []
goes_on [] b e h is = absurd (cc)
goes_on (x ∷ xs) b e h is = absurd (cc)

pub has_ended : (xs : List ℕ) (b : Bool) → b ≡ (length xs == 0) → b ≡ true → xs ≡ []
has_ended [] b e h = refl
has_ended (x ∷ xs) b e h = grind (arith, nat_tests)

-- ---- each text has tokens, or a place where none begins

reads_through : (n : ℕ) (cs : List ℕ) (ts : List Token) (rest : List ℕ) → length rest ≤ n → IsOn cs ts rest → ((us : List Token) × HasTokens cs us) ⊎ ((at : ℕ) × StopsAt cs at)
reads_through n cs ts [] h on = inl (ts, on_end on refl)
reads_through zero cs ts (d ∷ ds) h on = absurd (omega arith)
reads_through (suc n) cs ts (d ∷ ds) h on = go (token_of (d ∷ ds)) refl (λ us next k. reads_through n cs us next k)
  where
    go : (found : Found) → token_of (d ∷ ds) ≡ found → ((us : List Token) (next : List ℕ) → length next ≤ n → IsOn cs us next → ((us : List Token) × HasTokens cs us) ⊎ ((at : ℕ) × StopsAt cs at))
        → ((us : List Token) × HasTokens cs us) ⊎ ((at : ℕ) × StopsAt cs at)
    go None e more = inr (length cs - length (d ∷ ds), on_stop on (λ x. absurd (cc)) e)
    go (Some p) e more =
        let shorter = on_shorter p.0 p.1 (skipped false p.1) on (λ x. absurd (cc)) e refl in
        more (ts ++ p.0 ∷ []) (skipped false p.1) (omega arith) (on_more p.0 p.1 (skipped false p.1) on (λ x. absurd (cc)) e refl)

pub tokens_or_stop : (cs : List ℕ) → ((us : List Token) × HasTokens cs us) ⊎ ((at : ℕ) × StopsAt cs at)
tokens_or_stop cs = reads_through (length (skipped false cs)) cs [] (skipped false cs) (omega arith) (on_start cs (skipped false cs) refl)

-- ---- the tokens of a text are such as can stand in one

token_fits : (cs : List ℕ) (t : Token) (rest : List ℕ) → Begins cs t rest → IsToken t
token_fits cs (Name name) rest b = (b.0, b.1)
token_fits cs (Word w) rest b = tt
token_fits cs (Number n) rest b = rw b.value (number_fits (digits_value 10 b.digits) b.fits)
  where
    number_fits : (v : ℕ) → v < limit → (pos 0 ≤ℤ pos v) × (pos v <ℤ pos limit)
    number_fits v h = (omega (arith, ints), omega (arith, ints))
token_fits cs (Text text) rest b = b.0
token_fits cs (SymbolToken s) rest b = tt

reads_fit : {cs rest : List ℕ} {ts : List Token} → Reads cs ts rest → AllByRecursion IsToken ts
reads_fit none = tt
reads_fit (token {t} here more s b r) = (token_fits here t more b, reads_fit r)

pub tokens_fit : (cs : List ℕ) (ts : List Token) → HasTokens cs ts → All IsToken ts
tokens_fit cs ts h = All-from_recursion IsToken ts (reads_fit h.reads)

pub fit_answer : (r : Result (List Token) TokenFault) (cs : List ℕ) → IfOk r (HasTokens cs) → IfOk r (All IsToken)
fit_answer (Ok ts) cs h = tokens_fit cs ts h
fit_answer (Err e) cs h = tt
