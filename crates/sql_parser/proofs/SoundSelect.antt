-- What is read of a SELECT is spelled so.
use Rattle.std.proofs.Common.{◌≡◌, ℕ, zero, suc, ◌+◌, pos, Bool, true, false, if◌then◌else◌, List, [], ◌∷◌, ◌++◌, length, Option, Some, None, refl, sym, ap, subst, ◌∙◌, arith, append_assoc, append-nil, length-append}
use Rattle.sql_text.specs.declared.token.Token.{Token}
use Rattle.sql_text.specs.declared.token.Token.TheVariants.{Name, Word, Number, Text, Symbol}
use Rattle.sql_text.specs.declared.token.Reserved.{Reserved}
use Rattle.sql_text.specs.declared.token.Reserved.TheVariants as w
use Rattle.sql_text.specs.declared.token.Symbol.{Symbol as Sign}
use Rattle.sql_text.specs.declared.token.Symbol.TheVariants as s
use Rattle.sql_tree.specs.declared.tree.Tree.{Tree}
use Rattle.sql_tree.specs.declared.tree.ColumnName.{ColumnName}
use Rattle.sql_tree.specs.declared.select.TableName.{TableName}
use Rattle.sql_tree.specs.declared.select.Item.{Item}
use Rattle.sql_tree.specs.declared.select.Items.{Items}
use Rattle.sql_tree.specs.declared.select.Items.TheVariants.{Star, Listed}
use Rattle.sql_tree.specs.declared.select.Cond.{Cond}
use Rattle.sql_tree.specs.declared.select.Cond.TheVariants.{On}
use Rattle.sql_tree.specs.declared.select.How.{How}
use Rattle.sql_tree.specs.declared.select.How.TheVariants as how
use Rattle.sql_tree.specs.declared.select.FromEntry.{FromEntry}
use Rattle.sql_tree.specs.declared.select.KeyBy.{KeyBy}
use Rattle.sql_tree.specs.declared.select.KeyBy.TheVariants as by
use Rattle.sql_tree.specs.declared.select.OrderKey.{OrderKey}
use Rattle.sql_tree.specs.declared.select.Select.{Select}
use Rattle.sql_parser.specs.declared.select.JoinKind.{JoinKind}
use Rattle.sql_parser.specs.declared.select.JoinKind.TheVariants as kind
use Rattle.sql_expressions.specs.declared.expression.Part.TheVariants as part
use Rattle.sql_expressions.specs.Input.{Input, ◌>>=◌, pure, next, number, sees_number, expect_word, expect_symbol, sees_word, after_word}
use Rattle.sql_expressions.specs.Reading.{column, expression}
use Rattle.sql_parser.specs.ReadingList.{separated, table, using_name, alias}
use Rattle.sql_parser.specs.ReadingSelect as reading
use Rattle.sql_parser.specs.Grammar as grammar
use Rattle.sql_expressions.specs.Grammar.{IsExpr}
use Rattle.sql_parser.specs.Grammar.{Separated, IsTable, IsAlias, IsItem, AreItems, IsEntry, IsUsingName, IsCond, IsJoin, AreJoins, IsClause, IsColumnAt, AreGroups, IsKeyBy, IsDirection, IsNulls, IsKey, AreKeys, IsDistinct, IsFrom, IsSelect}
use Rattle.sql_expressions.proofs.Steps.{at, some_same, bind_some, Took, ate, left_it, symbol_eaten, word_eaten, number_found, word_expected, symbol_expected}
use Rattle.sql_expressions.proofs.Sound.{column-sound, reads_part-sound}
use Rattle.sql_parser.proofs.SoundList.{followed, behind, alone, nothing, seen_as, separated-sound, TableAt, AliasAt, table-sound, alias-sound, using_name-sound}

pub expression-sound : (n : ℕ) (i : Input) (r : Tree × Input) → expression n i ≡ Some r → Took IsExpr i r.0 r.1
unfolding expression
expression-sound n i r e = reads_part-sound n part.Expression i r e

pub column_at-sound : (i : Input) (r : ColumnName × Input) → column i ≡ Some r → Took IsColumnAt i r.0 r.1
column_at-sound i r e = column-sound i r e

pub item-sound : (n : ℕ) (i : Input) (r : Item × Input) → reading.item n i ≡ Some r → Took IsItem i r.0 r.1
unfolding reading.item
item-sound n i r e =
    let a = bind_some (expression n i) _ r e in
    let b = bind_some (alias a.0.1) _ r a.2 in
    subst (λ r. Took IsItem i r.0 r.1) (some_same b.2)
    (followed IsExpr AliasAt IsItem i a.0.1 b.0.1 a.0.0 b.0.0 _ (λ ts us d f. grammar.item d f) (expression-sound n i a.0 a.1) (alias-sound a.0.1 b.0 b.1))

items-sound : (n : ℕ) (i : Input) (r : Items × Input) → reading.items n i ≡ Some r → Took AreItems i r.0 r.1
unfolding reading.items
items-sound n i r e = elim (symbol_eaten s.Star i) [
  | ate sees after first place ↦
      subst (λ r. Took AreItems i r.0 r.1) (some_same (rw (sees, after) at e)) (alone (Symbol s.Star) AreItems i (next i) Star grammar.star first place)
  | left_it sees after ↦
      let a = bind_some (separated (reading.item n) i) _ r (rw (sees, after) at e) in
      subst (λ r. Took AreItems i r.0 r.1) (some_same a.2)
      (seen_as (Separated IsItem) AreItems i a.0.1 a.0.0 (Listed a.0.0) (λ ts d. grammar.items d) (separated-sound (reading.item n) IsItem (item-sound n) i a.0 a.1))
]

using-sound : (i : Input) (r : Cond × Input) → reading.using i ≡ Some r → Took IsCond i r.0 r.1
unfolding reading.using
using-sound i r e =
    let a = bind_some (expect_word w.Using i) _ r e in
    let first = word_expected w.Using i.place i.left a.0 a.1 in
    let b = bind_some (expect_symbol s.Open a.0.1) _ r a.2 in
    let second = symbol_expected s.Open a.0.1.place a.0.1.left b.0 b.1 in
    let c = bind_some (separated using_name b.0.1) _ r b.2 in
    let names = separated-sound using_name IsUsingName using_name-sound b.0.1 c.0 c.1 in
    let d = bind_some (expect_symbol s.Close c.0.1) _ r c.2 in
    let end = symbol_expected s.Close c.0.1.place c.0.1.left d.0 d.1 in
    let start : b.0.1.place ≡ i.place + 2 = omega arith in
    subst (λ r. Took IsCond i r.0 r.1) (some_same d.2) (record {
      tokens = Word w.Using ∷ Symbol s.Open ∷ names.tokens ++ Symbol s.Close ∷ [];
      split = first.0 ∙ ap (λ l. Word w.Using ∷ l) (second.0 ∙ ap (λ l. Symbol s.Open ∷ l) (names.split ∙ ap (λ l. names.tokens ++ l) end.0 ∙ sym (append_assoc names.tokens (Symbol s.Close ∷ []) d.0.1.left)));
      place = simp length-append (omega (arith, names.place, end.1));
      spelled = grammar.using (subst (λ p. Separated IsUsingName p names.tokens c.0.0) start names.spelled);
    })

cond-sound : (n : ℕ) (i : Input) (r : Cond × Input) → reading.cond n i ≡ Some r → Took IsCond i r.0 r.1
unfolding reading.cond
cond-sound n i r e = elim (word_eaten w.On i) [
  | ate sees after first place ↦
      let a = bind_some (expression n (next i)) _ r (rw (sees, after) at e) in
      subst (λ r. Took IsCond i r.0 r.1) (some_same a.2)
      (behind (Word w.On) IsExpr IsCond i (next i) a.0.1 a.0.0 (On a.0.0) (λ us d. grammar.on d) first place (expression-sound n (next i) a.0 a.1))
  | left_it sees after ↦ using-sound i r (rw (sees, after) at e)
]

-- ---- joins

abbrev EntryAt : How → ℕ → List Token → FromEntry → Type 0
EntryAt h p = IsEntry h

-- an entry that is joined, behind the words that join it
pub data Rest : JoinKind → ℕ → List Token → FromEntry → Type 0 where
  crossed : {p : ℕ} {ts : List Token} {e : FromEntry} → IsEntry how.Cross ts e → Rest kind.Cross p ts e
  inner : {p : ℕ} {ts us : List Token} {e : FromEntry} {c : Cond} → IsEntry (how.Inner c) ts e → IsCond (p + length ts) us c → Rest kind.Inner p (ts ++ us) e
  left : {p : ℕ} {ts us : List Token} {e : FromEntry} {c : Cond} → IsEntry (how.Left c) ts e → IsCond (p + length ts) us c → Rest kind.Left p (ts ++ us) e

entry-took : (i j k : Input) (t : TableName) (a : Option (List ℕ)) (h : How) → Took TableAt i t j → Took AliasAt j a k → Took (EntryAt h) i (reading.entry_of t a h) k
entry-took i j k t a h first second = followed TableAt AliasAt (EntryAt h) i j k t a (reading.entry_of t a h) (λ ts us d f. grammar.entry d f) first second

how-sound : (n : ℕ) (q : JoinKind) (i j k : Input) (t : TableName) (a : Option (List ℕ)) (r : How × Input) → Took TableAt i t j → Took AliasAt j a k → reading.how_by n q k ≡ Some r
    → Took (Rest q) i (reading.entry_of t a r.0) r.1
unfolding reading.how_by
how-sound n kind.Cross i j k t a r first second e =
    subst (λ r. Took (Rest kind.Cross) i (reading.entry_of t a r.0) r.1) (some_same e)
    (seen_as (EntryAt how.Cross) (Rest kind.Cross) i k _ _ (λ ts d. crossed d) (entry-took i j k t a how.Cross first second))
how-sound n kind.Inner i j k t a r first second e =
    let b = bind_some (reading.cond n k) _ r e in
    subst (λ r. Took (Rest kind.Inner) i (reading.entry_of t a r.0) r.1) (some_same b.2)
    (followed (EntryAt (how.Inner b.0.0)) IsCond (Rest kind.Inner) i k b.0.1 (reading.entry_of t a (how.Inner b.0.0)) b.0.0 (reading.entry_of t a (how.Inner b.0.0)) (λ ts us d f. inner d f)
    (entry-took i j k t a (how.Inner b.0.0) first second) (cond-sound n k b.0 b.1))
how-sound n kind.Left i j k t a r first second e =
    let b = bind_some (reading.cond n k) _ r e in
    subst (λ r. Took (Rest kind.Left) i (reading.entry_of t a r.0) r.1) (some_same b.2)
    (followed (EntryAt (how.Left b.0.0)) IsCond (Rest kind.Left) i k b.0.1 (reading.entry_of t a (how.Left b.0.0)) b.0.0 (reading.entry_of t a (how.Left b.0.0)) (λ ts us d f. left d f)
    (entry-took i j k t a (how.Left b.0.0) first second) (cond-sound n k b.0 b.1))

joined-sound : (n : ℕ) (q : JoinKind) (i : Input) (r : FromEntry × Input) → reading.joined n q i ≡ Some r → Took (Rest q) i r.0 r.1
unfolding reading.joined
joined-sound n q i r e =
    let a = bind_some (table i) _ r e in
    let b = bind_some (alias a.0.1) _ r a.2 in
    let c = bind_some (reading.how_by n q b.0.1) _ r b.2 in
    subst (λ r. Took (Rest q) i r.0 r.1) (some_same c.2) (how-sound n q i a.0.1 b.0.1 a.0.0 b.0.0 c.0 (table-sound i a.0 a.1) (alias-sound a.0.1 b.0 b.1) c.1)

-- the words that join an entry
pub data Joining : JoinKind → List Token → Type 0 where
  by_comma : Joining kind.Cross (Symbol s.Comma ∷ [])
  by_cross : Joining kind.Cross (Word w.Cross ∷ Word w.Join ∷ [])
  by_join : Joining kind.Inner (Word w.Join ∷ [])
  by_inner : Joining kind.Inner (Word w.Inner ∷ Word w.Join ∷ [])
  by_left : Joining kind.Left (Word w.Left ∷ Word w.Join ∷ [])
  by_left_outer : Joining kind.Left (Word w.Left ∷ Word w.Outer ∷ Word w.Join ∷ [])

whole_join : (q : JoinKind) (p : ℕ) (ts us : List Token) (e : FromEntry) → Joining q ts → Rest q (p + length ts) us e → IsJoin p (ts ++ us) e
whole_join q p ts us e by_comma (crossed d) = grammar.comma_entry d
whole_join q p ts us e by_cross (crossed d) = grammar.cross_join d
whole_join q p ts us e by_join (inner d c) = grammar.join d c
whole_join q p ts us e by_inner (inner d c) = grammar.inner_join d c
whole_join q p ts us e by_left (left d c) = grammar.left_join d c
whole_join q p ts us e by_left_outer (left d c) = grammar.left_outer_join d c

-- what was read of the words that join: none, or those of this kind
pub data Joins (i : Input) : Option JoinKind → Input → Type 0 where
  no_join : Joins i None i
  some_join : {q : JoinKind} {j : Input} (ts : List Token) → Joining q ts → i.left ≡ ts ++ j.left → j.place ≡ i.place + length ts → Joins i (Some q) j

abbrev JoinsTo : Input → Option JoinKind × Input → Type 0
JoinsTo i r = Joins i r.0 r.1

join_as-sound : (q : JoinKind) (i j : Input) (ts : List Token) (r : Option JoinKind × Input) → Joining q (ts ++ Word w.Join ∷ []) → i.left ≡ ts ++ j.left → j.place ≡ i.place + length ts
    → reading.join_as q j ≡ Some r → JoinsTo i r
unfolding reading.join_as
join_as-sound q i j ts r joining first place e =
    let a = bind_some (expect_word w.Join j) _ r e in
    let end = word_expected w.Join j.place j.left a.0 a.1 in
    subst (JoinsTo i) (some_same a.2)
    (some_join (ts ++ Word w.Join ∷ []) joining (first ∙ ap (λ l. ts ++ l) end.0 ∙ sym (append_assoc ts (Word w.Join ∷ []) a.0.1.left)) (simp length-append (omega (arith, end.1))))

left_join-sound : (p : ℕ) (ts : List Token) (r : Option JoinKind × Input) → reading.left_join (at (p + 1) ts) ≡ Some r → JoinsTo (at p (Word w.Left ∷ ts)) r
unfolding reading.left_join
left_join-sound p ts r e = elim (word_eaten w.Outer (at (p + 1) ts)) [
  | ate sees after first place ↦
      join_as-sound kind.Left (at p (Word w.Left ∷ ts)) (next (at (p + 1) ts)) (Word w.Left ∷ Word w.Outer ∷ []) r by_left_outer (ap (λ l. Word w.Left ∷ l) first) (omega arith) (rw after at e)
  | left_it sees after ↦ join_as-sound kind.Left (at p (Word w.Left ∷ ts)) (at (p + 1) ts) (Word w.Left ∷ []) r by_left refl refl (rw after at e)
]

join_word-sound : (v : Reserved) (p : ℕ) (ts : List Token) (r : Option JoinKind × Input) → reading.join_word v (at p (Word v ∷ ts)) ≡ Some r → JoinsTo (at p (Word v ∷ ts)) r
unfolding next
join_word-sound w.Cross p ts r e = join_as-sound kind.Cross (at p (Word w.Cross ∷ ts)) (at (p + 1) ts) (Word w.Cross ∷ []) r by_cross refl refl e
join_word-sound w.Join p ts r e = let none : p ≡ p + 0 = omega arith in join_as-sound kind.Inner (at p (Word w.Join ∷ ts)) (at p (Word w.Join ∷ ts)) [] r by_join refl none e
join_word-sound w.Inner p ts r e = join_as-sound kind.Inner (at p (Word w.Inner ∷ ts)) (at (p + 1) ts) (Word w.Inner ∷ []) r by_inner refl refl e
join_word-sound w.Left p ts r e = left_join-sound p ts r e
join_word-sound v p ts r e = subst (JoinsTo (at p (Word v ∷ ts))) (some_same e) no_join

join_symbol-sound : (v : Sign) (p : ℕ) (ts : List Token) (r : Option JoinKind × Input) → reading.join_symbol v (at p (Symbol v ∷ ts)) ≡ Some r → JoinsTo (at p (Symbol v ∷ ts)) r
unfolding next
join_symbol-sound s.Comma p ts r e = subst (JoinsTo (at p (Symbol s.Comma ∷ ts))) (some_same e) (some_join (Symbol s.Comma ∷ []) by_comma refl refl)
join_symbol-sound v p ts r e = subst (JoinsTo (at p (Symbol v ∷ ts))) (some_same e) no_join

join_kind-sound : (p : ℕ) (l : List Token) (r : Option JoinKind × Input) → reading.join_kind (at p l) ≡ Some r → JoinsTo (at p l) r
unfolding reading.join_kind
join_kind-sound p [] r e = subst (JoinsTo (at p [])) (some_same e) no_join
join_kind-sound p (Name n ∷ ts) r e = subst (JoinsTo (at p (Name n ∷ ts))) (some_same e) no_join
join_kind-sound p (Word v ∷ ts) r e = join_word-sound v p ts r e
join_kind-sound p (Number n ∷ ts) r e = subst (JoinsTo (at p (Number n ∷ ts))) (some_same e) no_join
join_kind-sound p (Text t ∷ ts) r e = subst (JoinsTo (at p (Text t ∷ ts))) (some_same e) no_join
join_kind-sound p (Symbol v ∷ ts) r e = join_symbol-sound v p ts r e

abbrev MoreJoins : List FromEntry → Input → List FromEntry × Input → Type 0
MoreJoins found i r = (es : List FromEntry) × (r.0 ≡ found ++ es) × Took AreJoins i es r.1

no_more : (found : List FromEntry) (i : Input) → MoreJoins found i (found, i)
no_more found i = ([], sym (append-nil found), nothing AreJoins i [] grammar.no_joins)

one_join : (q : JoinKind) (i j k m : Input) (es : List FromEntry) (e : FromEntry) (ts : List Token) → Joining q ts → i.left ≡ ts ++ j.left → j.place ≡ i.place + length ts
    → Took (Rest q) j e k → Took AreJoins k es m → Took AreJoins i (e ∷ es) m
one_join q i j k m es e ts joining split place one more =
    let join_took : Took IsJoin i e k = record {
      tokens = ts ++ one.tokens;
      split = split ∙ ap (λ l. ts ++ l) one.split ∙ sym (append_assoc ts one.tokens k.left);
      place = simp length-append (omega (arith, one.place));
      spelled = whole_join q i.place ts one.tokens e joining (subst (λ p. Rest q p one.tokens e) place one.spelled);
    } in
    followed IsJoin AreJoins AreJoins i k m e es (e ∷ es) (λ us vs d f. grammar.joins d f) join_took more

joins_go : (depth n : ℕ) (found : List FromEntry) (i : Input) (r : List FromEntry × Input)
    → ((found : List FromEntry) (i : Input) → reading.joins_from depth n found i ≡ Some r → MoreJoins found i r) → (q : Option JoinKind) (j : Input) → Joins i q j
    → reading.if_some q (pure found) (λ k. reading.joined depth k >>= λ entry. reading.joins_from depth n (found ++ entry ∷ [])) j ≡ Some r → MoreJoins found i r
joins_go depth n found i r again None j no_join h = subst (MoreJoins found i) (some_same h) (no_more found i)
joins_go depth n found i r again (Some q) j (some_join ts joining split place) h =
    let b = bind_some (reading.joined depth q j) _ r h in
    let more = again (found ++ b.0.0 ∷ []) b.0.1 b.2 in (
      b.0.0 ∷ more.0,
      more.1 ∙ append_assoc found (b.0.0 ∷ []) more.0,
      one_join q i j b.0.1 r.1 more.0 b.0.0 ts joining split place (joined-sound depth q j b.0 b.1) more.2,
    )

joins-sound : (depth n : ℕ) (found : List FromEntry) (i : Input) (r : List FromEntry × Input) → reading.joins_from depth n found i ≡ Some r → MoreJoins found i r
unfolding reading.joins_from
joins-sound depth zero found i r e = subst (MoreJoins found i) (some_same e) (no_more found i)
joins-sound depth (suc n) found i r e =
    let a = bind_some (reading.join_kind i) _ r e in
    joins_go depth n found i r (λ found i e. joins-sound depth n found i r e) a.0.0 a.0.1 (join_kind-sound i.place i.left a.0 a.1) a.2

-- what FROM was followed by
pub data Entries : ℕ → List Token → List FromEntry → Type 0 where
  entries : {p : ℕ} {ts us : List Token} {e : FromEntry} {es : List FromEntry} → IsEntry how.First ts e → AreJoins (p + length ts) us es → Entries p (ts ++ us) (e ∷ es)

first_entry-sound : (i : Input) (r : FromEntry × Input) → reading.first_entry i ≡ Some r → Took (EntryAt how.First) i r.0 r.1
unfolding reading.first_entry
first_entry-sound i r e =
    let a = bind_some (table i) _ r e in
    let b = bind_some (alias a.0.1) _ r a.2 in
    subst (λ r. Took (EntryAt how.First) i r.0 r.1) (some_same b.2) (entry-took i a.0.1 b.0.1 a.0.0 b.0.0 how.First (table-sound i a.0 a.1) (alias-sound a.0.1 b.0 b.1))

from-sound : (n : ℕ) (i : Input) (r : List FromEntry × Input) → reading.from n i ≡ Some r → Took Entries i r.0 r.1
unfolding reading.from
from-sound n i r e =
    let a = bind_some (reading.first_entry i) _ r e in
    let more = joins-sound n (length a.0.1.left) (a.0.0 ∷ []) a.0.1 r a.2 in
    subst (λ es. Took Entries i es r.1) (sym more.1)
    (followed (EntryAt how.First) AreJoins Entries i a.0.1 r.1 a.0.0 more.0 (a.0.0 ∷ more.0) (λ ts us d f. entries d f) (first_entry-sound i a.0 a.1) more.2)

from_clause : (i j k : Input) (es : List FromEntry) → i.left ≡ Word w.From ∷ j.left → j.place ≡ i.place + 1 → Took Entries j es k → Took IsFrom i es k
from_clause i j k es first place took = behind (Word w.From) Entries IsFrom i j k es es (λ us d. from_entries i.place us es d) first place took where
  from_entries : (p : ℕ) (us : List Token) (es : List FromEntry) → Entries (p + 1) us es → IsFrom p (Word w.From ∷ us) es
  from_entries p us es (entries d f) = grammar.from d f

-- ---- the clauses behind FROM

clause-sound : (n : ℕ) (word : Reserved) (i : Input) (r : Option Tree × Input) → reading.clause n word i ≡ Some r → Took (IsClause word) i r.0 r.1
unfolding reading.clause
clause-sound n word i r e = elim (word_eaten word i) [
  | ate sees after first place ↦
      let a = bind_some (expression n (next i)) _ r (rw (sees, after) at e) in
      subst (λ r. Took (IsClause word) i r.0 r.1) (some_same a.2)
      (behind (Word word) IsExpr (IsClause word) i (next i) a.0.1 a.0.0 (Some a.0.0) (λ us d. grammar.clause d) first place (expression-sound n (next i) a.0 a.1))
  | left_it sees after ↦ subst (λ r. Took (IsClause word) i r.0 r.1) (some_same (rw (sees, after) at e)) (nothing (IsClause word) i None grammar.no_clause)
]

-- two words, and what follows them
two_words : {B C : Type 0} (v u : Reserved) (Q : ℕ → List Token → B → Type 0) (R : ℕ → List Token → C → Type 0) (i j k m : Input) (y : B) (z : C)
    → ((us : List Token) → Q (i.place + 2) us y → R i.place (Word v ∷ Word u ∷ us) z) → i.left ≡ Word v ∷ j.left → j.place ≡ i.place + 1
    → j.left ≡ Word u ∷ k.left → k.place ≡ j.place + 1 → Took Q k y m → Took R i z m
two_words v u Q R i j k m y z whole first first_place second second_place b =
    let start : k.place ≡ i.place + 2 = omega arith in
    record {
      tokens = Word v ∷ Word u ∷ b.tokens;
      split = first ∙ ap (λ l. Word v ∷ l) (second ∙ ap (λ l. Word u ∷ l) b.split);
      place = omega (arith, b.place);
      spelled = whole b.tokens (subst (λ p. Q p b.tokens y) start b.spelled);
    }

groups-sound : (i : Input) (r : List ColumnName × Input) → reading.groups i ≡ Some r → Took AreGroups i r.0 r.1
unfolding reading.groups
groups-sound i r e = elim (word_eaten w.Group i) [
  | ate sees after first place ↦
      let a = bind_some (expect_word w.By (next i)) _ r (rw (sees, after) at e) in
      let second = word_expected w.By (next i).place (next i).left a.0 a.1 in
      two_words w.Group w.By (Separated IsColumnAt) AreGroups i (next i) a.0.1 r.1 r.0 r.0 (λ us d. grammar.groups d) first place second.0 second.1
      (separated-sound column IsColumnAt column_at-sound a.0.1 r a.2)
  | left_it sees after ↦ subst (λ r. Took AreGroups i r.0 r.1) (some_same (rw (sees, after) at e)) (nothing AreGroups i [] grammar.no_groups)
]

abbrev KeyByAt : ℕ → List Token → KeyBy → Type 0
KeyByAt p = IsKeyBy

abbrev DirectionAt : ℕ → List Token → Bool → Type 0
DirectionAt p = IsDirection

abbrev NullsAt : Bool → ℕ → List Token → Bool → Type 0
NullsAt d p = IsNulls d

key_by_if : (i : Input) (r : KeyBy × Input) (b : Bool) → (if b then (number >>= λ n. pure (by.Place n)) else (column >>= λ c. pure (by.Column c))) i ≡ Some r → Took KeyByAt i r.0 r.1
key_by_if i r true e =
    let a = bind_some (number i) _ r e in
    let found = number_found i a.0 a.1 in
    subst (λ r. Took KeyByAt i r.0 r.1) (some_same a.2)
    (subst (λ z. Took KeyByAt i (by.Place z) a.0.1) (sym found.1) (alone (Number (pos found.0)) KeyByAt i a.0.1 (by.Place (pos found.0)) grammar.by_number found.2 found.3))
key_by_if i r false e =
    let a = bind_some (column i) _ r e in
    subst (λ r. Took KeyByAt i r.0 r.1) (some_same a.2) (seen_as IsColumnAt KeyByAt i a.0.1 a.0.0 (by.Column a.0.0) (λ ts d. grammar.by_column d) (column_at-sound i a.0 a.1))

key_by-sound : (i : Input) (r : KeyBy × Input) → reading.key_by i ≡ Some r → Took KeyByAt i r.0 r.1
unfolding reading.key_by
key_by-sound i r e = key_by_if i r (sees_number i) e

direction-sound : (i : Input) (r : Bool × Input) → reading.direction i ≡ Some r → Took DirectionAt i r.0 r.1
unfolding reading.direction
direction-sound i r e = elim (word_eaten w.Desc i) [
  | ate sees after first place ↦ subst (λ r. Took DirectionAt i r.0 r.1) (some_same (rw (sees, after) at e)) (alone (Word w.Desc) DirectionAt i (next i) true grammar.desc first place)
  | left_it sees after ↦ ascending_sound (rw (sees, after) at e)
] where
  ascending_sound : Some (false, after_word w.Asc i) ≡ Some r → Took DirectionAt i r.0 r.1
  ascending_sound h = elim (word_eaten w.Asc i) [
    | ate sees after first place ↦
        subst (λ r. Took DirectionAt i r.0 r.1) (some_same h) (subst (λ j. Took DirectionAt i false j) (sym after) (alone (Word w.Asc) DirectionAt i (next i) false grammar.asc first place))
    | left_it sees after ↦ subst (λ r. Took DirectionAt i r.0 r.1) (some_same h) (subst (λ j. Took DirectionAt i false j) (sym after) (nothing DirectionAt i false grammar.no_direction))
  ]

first_or_last-sound : (d : Bool) (i j : Input) (r : Bool × Input) → i.left ≡ Word w.Nulls ∷ j.left → j.place ≡ i.place + 1 → reading.first_or_last j ≡ Some r → Took (NullsAt d) i r.0 r.1
unfolding reading.first_or_last
first_or_last-sound d i j r nulls nulls_place e = elim (word_eaten w.First j) [
  | ate sees after first place ↦
      subst (λ r. Took (NullsAt d) i r.0 r.1) (some_same (rw (sees, after) at e)) (record {
        tokens = Word w.Nulls ∷ Word w.First ∷ [];
        split = nulls ∙ ap (λ l. Word w.Nulls ∷ l) first;
        place = omega arith;
        spelled = grammar.nulls_first;
      })
  | left_it sees after ↦
      let a = bind_some (expect_word w.Last j) _ r (rw (sees, after) at e) in
      let end = word_expected w.Last j.place j.left a.0 a.1 in
      subst (λ r. Took (NullsAt d) i r.0 r.1) (some_same a.2) (record {
        tokens = Word w.Nulls ∷ Word w.Last ∷ [];
        split = nulls ∙ ap (λ l. Word w.Nulls ∷ l) end.0;
        place = omega (arith, end.1);
        spelled = grammar.nulls_last;
      })
]

nulls-sound : (d : Bool) (i : Input) (r : Bool × Input) → reading.nulls d i ≡ Some r → Took (NullsAt d) i r.0 r.1
unfolding reading.nulls
nulls-sound d i r e = elim (word_eaten w.Nulls i) [
  | ate sees after first place ↦ first_or_last-sound d i (next i) r first place (rw (sees, after) at e)
  | left_it sees after ↦ subst (λ r. Took (NullsAt d) i r.0 r.1) (some_same (rw (sees, after) at e)) (nothing (NullsAt d) i d grammar.no_nulls)
]

three : (l l1 l2 k a b c : List Token) → l ≡ a ++ l1 → l1 ≡ b ++ l2 → l2 ≡ c ++ k → l ≡ (a ++ (b ++ c)) ++ k
three l l1 l2 k a b c p1 p2 p3 = p1 ∙ ap (λ l. a ++ l) (p2 ∙ ap (λ l. b ++ l) p3 ∙ sym (append_assoc b c k)) ∙ sym (append_assoc a (b ++ c) k)

key-sound : (i : Input) (r : OrderKey × Input) → reading.key i ≡ Some r → Took IsKey i r.0 r.1
unfolding reading.key
key-sound i r e =
    let a = bind_some (reading.key_by i) _ r e in
    let b = bind_some (reading.direction a.0.1) _ r a.2 in
    let c = bind_some (reading.nulls b.0.0 b.0.1) _ r b.2 in
    let by_took = key_by-sound i a.0 a.1 in
    let direction_took = direction-sound a.0.1 b.0 b.1 in
    let nulls_took = nulls-sound b.0.0 b.0.1 c.0 c.1 in
    subst (λ r. Took IsKey i r.0 r.1) (some_same c.2) (record {
      tokens = by_took.tokens ++ (direction_took.tokens ++ nulls_took.tokens);
      split = three i.left a.0.1.left b.0.1.left c.0.1.left by_took.tokens direction_took.tokens nulls_took.tokens by_took.split direction_took.split nulls_took.split;
      place = simp length-append (omega (arith, by_took.place, direction_took.place, nulls_took.place));
      spelled = grammar.key by_took.spelled direction_took.spelled nulls_took.spelled;
    })

order-sound : (i : Input) (r : List OrderKey × Input) → reading.order i ≡ Some r → Took AreKeys i r.0 r.1
unfolding reading.order
order-sound i r e = elim (word_eaten w.Order i) [
  | ate sees after first place ↦
      let a = bind_some (expect_word w.By (next i)) _ r (rw (sees, after) at e) in
      let second = word_expected w.By (next i).place (next i).left a.0 a.1 in
      two_words w.Order w.By (Separated IsKey) AreKeys i (next i) a.0.1 r.1 r.0 r.0 (λ us d. grammar.keys d) first place second.0 second.1
      (separated-sound reading.key IsKey key-sound a.0.1 r a.2)
  | left_it sees after ↦ subst (λ r. Took AreKeys i r.0 r.1) (some_same (rw (sees, after) at e)) (nothing AreKeys i [] grammar.no_keys)
]

abbrev DistinctAt : ℕ → List Token → Bool → Type 0
DistinctAt p = IsDistinct

distinct-took : (i : Input) → Took DistinctAt i (sees_word w.Distinct i) (after_word w.Distinct i)
distinct-took i = elim (word_eaten w.Distinct i) [
  | ate sees after first place ↦ rw (sees, after) (alone (Word w.Distinct) DistinctAt i (next i) true grammar.distinct first place)
  | left_it sees after ↦ rw (sees, after) (nothing DistinctAt i false grammar.all_rows)
]

regrouped : (a b c d e f g k : List Token) → a ++ (b ++ (c ++ (d ++ (e ++ (f ++ (g ++ k)))))) ≡ (a ++ (b ++ (c ++ (d ++ (e ++ (f ++ g)))))) ++ k
regrouped a b c d e f g k = simp append_assoc refl

seven : (l l1 l2 l3 l4 l5 l6 k a b c d e f g : List Token) → l ≡ a ++ l1 → l1 ≡ b ++ l2 → l2 ≡ c ++ l3 → l3 ≡ d ++ l4 → l4 ≡ e ++ l5 → l5 ≡ f ++ l6 → l6 ≡ g ++ k
    → l ≡ (a ++ (b ++ (c ++ (d ++ (e ++ (f ++ g)))))) ++ k
seven l l1 l2 l3 l4 l5 l6 k a b c d e f g p1 p2 p3 p4 p5 p6 p7 =
    p1 ∙ ap (λ l. a ++ l) (p2 ∙ ap (λ l. b ++ l) (p3 ∙ ap (λ l. c ++ l) (p4 ∙ ap (λ l. d ++ l) (p5 ∙ ap (λ l. e ++ l) (p6 ∙ ap (λ l. f ++ l) p7)))))
    ∙ regrouped a b c d e f g k

whole_select : (i j k1 k2 k3 k4 k5 k6 k7 : Input) (d : Bool) (it : Items) (f : List FromEntry) (c h : Option Tree) (g : List ColumnName) (o : List OrderKey)
    → i.left ≡ Word w.Select ∷ j.left → j.place ≡ i.place + 1 → Took DistinctAt j d k1 → Took AreItems k1 it k2 → Took IsFrom k2 f k3 → Took (IsClause w.Where) k3 c k4
    → Took AreGroups k4 g k5 → Took (IsClause w.Having) k5 h k6 → Took AreKeys k6 o k7
    → Took IsSelect i (record { distinct = d; items = it; from = f; filter = c; groups = g; having = h; order = o }) k7
whole_select i j k1 k2 k3 k4 k5 k6 k7 d it f c h g o first place ds is fs ws gs hs os =
    let p = i.place in
    let at_items : k1.place ≡ p + 1 + length ds.tokens = omega (arith, ds.place) in
    let at_from : k2.place ≡ p + 1 + length ds.tokens + length is.tokens = omega (arith, is.place) in
    let at_where : k3.place ≡ p + 1 + length ds.tokens + length is.tokens + length fs.tokens = omega (arith, fs.place) in
    let at_groups : k4.place ≡ p + 1 + length ds.tokens + length is.tokens + length fs.tokens + length ws.tokens = omega (arith, ws.place) in
    let at_having : k5.place ≡ p + 1 + length ds.tokens + length is.tokens + length fs.tokens + length ws.tokens + length gs.tokens = omega (arith, gs.place) in
    let at_order : k6.place ≡ p + 1 + length ds.tokens + length is.tokens + length fs.tokens + length ws.tokens + length gs.tokens + length hs.tokens = omega (arith, hs.place) in
    record {
      tokens = Word w.Select ∷ ds.tokens ++ (is.tokens ++ (fs.tokens ++ (ws.tokens ++ (gs.tokens ++ (hs.tokens ++ os.tokens)))));
      split = first ∙ ap (λ l. Word w.Select ∷ l) (seven j.left k1.left k2.left k3.left k4.left k5.left k6.left k7.left
          ds.tokens is.tokens fs.tokens ws.tokens gs.tokens hs.tokens os.tokens ds.split is.split fs.split ws.split gs.split hs.split os.split);
      place = simp length-append (omega (arith, os.place));
      spelled = grammar.select ds.spelled (subst (λ q. AreItems q is.tokens it) at_items is.spelled) (subst (λ q. IsFrom q fs.tokens f) at_from fs.spelled)
          (subst (λ q. IsClause w.Where q ws.tokens c) at_where ws.spelled) (subst (λ q. AreGroups q gs.tokens g) at_groups gs.spelled)
          (subst (λ q. IsClause w.Having q hs.tokens h) at_having hs.spelled) (subst (λ q. AreKeys q os.tokens o) at_order os.spelled);
    }

pub select-sound : (n : ℕ) (i j : Input) (r : Select × Input) → i.left ≡ Word w.Select ∷ j.left → j.place ≡ i.place + 1 → reading.select n j ≡ Some r → Took IsSelect i r.0 r.1
unfolding reading.select
select-sound n i j r first place e =
    let a = bind_some (reading.items n (after_word w.Distinct j)) _ r e in
    let b = bind_some (expect_word w.From a.0.1) _ r a.2 in
    let from_word = word_expected w.From a.0.1.place a.0.1.left b.0 b.1 in
    let c = bind_some (reading.from n b.0.1) _ r b.2 in
    let f = bind_some (reading.clause n w.Where c.0.1) _ r c.2 in
    let g = bind_some (reading.groups f.0.1) _ r f.2 in
    let h = bind_some (reading.clause n w.Having g.0.1) _ r g.2 in
    let o = bind_some (reading.order h.0.1) _ r h.2 in
    subst (λ r. Took IsSelect i r.0 r.1) (some_same o.2)
    (whole_select i j (after_word w.Distinct j) a.0.1 c.0.1 f.0.1 g.0.1 h.0.1 o.0.1 (sees_word w.Distinct j) a.0.0 c.0.0 f.0.0 h.0.0 g.0.0 o.0.0 first place (distinct-took j)
    (items-sound n (after_word w.Distinct j) a.0 a.1) (from_clause a.0.1 b.0.1 c.0.1 c.0.0 from_word.0 from_word.1 (from-sound n b.0.1 c.0 c.1))
    (clause-sound n w.Where c.0.1 f.0 f.1) (groups-sound f.0.1 g.0 g.1) (clause-sound n w.Having g.0.1 h.0 h.1) (order-sound h.0.1 o.0 o.1))
