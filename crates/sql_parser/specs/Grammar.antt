-- The grammar of statements, over that of expressions. `IsSelect place tokens select` says that these tokens, the first of which has this
-- place, are a `select`; likewise for the other parts. Each part has one constructor for each production.
use Rattle.std.specs.Prelude.{◌≡◌, ℕ, ◌+◌, ◌≤◌, pos, neg_ℤ, Bool, true, false, List, [], ◌∷◌, ◌++◌, length, unwrap_or, Option, Some, None}
use Rattle.cal_value.specs.declared.value.Value.{Value}
use Rattle.cal_value.specs.declared.value.Value.TheVariants as value
use Rattle.sql_text.specs.declared.token.Token.{Token}
use Rattle.sql_text.specs.declared.token.Token.TheVariants.{Name, Word, Number, Text, Symbol}
use Rattle.sql_text.specs.declared.token.Reserved.{Reserved}
use Rattle.sql_text.specs.declared.token.Reserved.TheVariants as w
use Rattle.sql_text.specs.declared.token.Symbol.TheVariants as s
use Rattle.sql_tree.specs.declared.tree.Tree.{Tree, out-Tree}
use Rattle.sql_tree.specs.declared.tree.Tree.TheOpen.{Tree-F}
use Rattle.sql_tree.specs.declared.tree.ColumnName.{ColumnName}
use Rattle.sql_tree.specs.declared.select.TableName.{TableName}
use Rattle.sql_tree.specs.declared.select.Item.{Item}
use Rattle.sql_tree.specs.declared.select.Items.{Items}
use Rattle.sql_tree.specs.declared.select.Items.TheVariants.{Star, Listed}
use Rattle.sql_tree.specs.declared.select.UsingName.{UsingName}
use Rattle.sql_tree.specs.declared.select.Cond.{Cond}
use Rattle.sql_tree.specs.declared.select.Cond.TheVariants.{On, Using}
use Rattle.sql_tree.specs.declared.select.How.{How}
use Rattle.sql_tree.specs.declared.select.How.TheVariants as how
use Rattle.sql_tree.specs.declared.select.FromEntry.{FromEntry}
use Rattle.sql_tree.specs.declared.select.KeyBy.{KeyBy}
use Rattle.sql_tree.specs.declared.select.KeyBy.TheVariants as by
use Rattle.sql_tree.specs.declared.select.OrderKey.{OrderKey}
use Rattle.sql_tree.specs.declared.select.Select.{Select}
use Rattle.sql_tree.specs.declared.statement.TileText.{TileText}
use Rattle.sql_tree.specs.declared.statement.Statement.{Statement}
use Rattle.sql_tree.specs.declared.statement.Statement.TheVariants as statement
use Rattle.sql_expressions.specs.Grammar.{IsColumn, IsExpr, IsAgg}

-- whether a tree is a column
abbrev pub column_layer : Tree-F Tree → Bool
column_layer (Tree-F.Column place name) = true
column_layer _ = false

unfoldable pub is_column : Tree → Bool
is_column t = column_layer (out-Tree t)

-- whether a tree is an aggregate of a column, or of all rows
abbrev pub measure_layer : Tree-F Tree → Bool
measure_layer (Tree-F.Aggregate place a None) = true
measure_layer (Tree-F.Aggregate place a (Some inner)) = is_column inner
measure_layer _ = false

unfoldable pub of_column : Tree → Bool
of_column t = measure_layer (out-Tree t)

-- a part, or several with commas between
pub data Separated {A : Type 0} (Part : ℕ → List Token → A → Type 0) : ℕ → List Token → List A → Type 0 where
  last : {p : ℕ} {ts : List Token} {x : A} → Part p ts x → Separated Part p ts (x ∷ [])
  comma : {p : ℕ} {ts us : List Token} {x : A} {xs : List A} → Part p ts x → Separated Part (p + length ts + 1) us xs
      → Separated Part p (ts ++ Symbol s.Comma ∷ us) (x ∷ xs)

-- table = name [. name]
pub data IsTable : List Token → TableName → Type 0 where
  plain_table : {n : List ℕ} → IsTable (Name n ∷ []) (record { schema = None; name = n })
  qualified_table : {a n : List ℕ} → IsTable (Name a ∷ Symbol s.Dot ∷ Name n ∷ []) (record { schema = Some a; name = n })

-- [[AS] name]
pub data IsAlias : List Token → Option (List ℕ) → Type 0 where
  no_alias : IsAlias [] None
  alias : {n : List ℕ} → IsAlias (Name n ∷ []) (Some n)
  as_alias : {n : List ℕ} → IsAlias (Word w.As ∷ Name n ∷ []) (Some n)

-- item = expr [[AS] name]
pub data IsItem : ℕ → List Token → Item → Type 0 where
  item : {p : ℕ} {ts us : List Token} {t : Tree} {a : Option (List ℕ)} → IsExpr p ts t → IsAlias us a → IsItem p (ts ++ us) (record { tree = t; alias = a })

-- * | item {, item}
pub data AreItems : ℕ → List Token → Items → Type 0 where
  star : {p : ℕ} → AreItems p (Symbol s.Star ∷ []) Star
  items : {p : ℕ} {ts : List Token} {xs : List Item} → Separated IsItem p ts xs → AreItems p ts (Listed xs)

-- entry = table [[AS] name], and an entry without an alias has its table's name
pub data IsEntry (how : How) : List Token → FromEntry → Type 0 where
  entry : {ts us : List Token} {t : TableName} {a : Option (List ℕ)} → IsTable ts t → IsAlias us a
      → IsEntry how (ts ++ us) (record { table = t; alias = unwrap_or a t.name; how = how })

pub data IsUsingName : ℕ → List Token → UsingName → Type 0 where
  using_name : {p : ℕ} {n : List ℕ} → IsUsingName p (Name n ∷ []) (record { place = p; name = n })

-- cond = ON expr | USING ( name {, name} )
pub data IsCond : ℕ → List Token → Cond → Type 0 where
  on : {p : ℕ} {ts : List Token} {t : Tree} → IsExpr (p + 1) ts t → IsCond p (Word w.On ∷ ts) (On t)
  using : {p : ℕ} {ts : List Token} {ns : List UsingName} → Separated IsUsingName (p + 2) ts ns
      → IsCond p (Word w.Using ∷ Symbol s.Open ∷ ts ++ Symbol s.Close ∷ []) (Using ns)

-- join = , entry | CROSS JOIN entry | [INNER] JOIN entry cond | LEFT [OUTER] JOIN entry cond
pub data IsJoin : ℕ → List Token → FromEntry → Type 0 where
  comma_entry : {p : ℕ} {ts : List Token} {e : FromEntry} → IsEntry how.Cross ts e → IsJoin p (Symbol s.Comma ∷ ts) e
  cross_join : {p : ℕ} {ts : List Token} {e : FromEntry} → IsEntry how.Cross ts e → IsJoin p (Word w.Cross ∷ Word w.Join ∷ ts) e
  join : {p : ℕ} {ts us : List Token} {e : FromEntry} {c : Cond} → IsEntry (how.Inner c) ts e → IsCond (p + 1 + length ts) us c
      → IsJoin p (Word w.Join ∷ ts ++ us) e
  inner_join : {p : ℕ} {ts us : List Token} {e : FromEntry} {c : Cond} → IsEntry (how.Inner c) ts e → IsCond (p + 2 + length ts) us c
      → IsJoin p (Word w.Inner ∷ Word w.Join ∷ ts ++ us) e
  left_join : {p : ℕ} {ts us : List Token} {e : FromEntry} {c : Cond} → IsEntry (how.Left c) ts e → IsCond (p + 2 + length ts) us c
      → IsJoin p (Word w.Left ∷ Word w.Join ∷ ts ++ us) e
  left_outer_join : {p : ℕ} {ts us : List Token} {e : FromEntry} {c : Cond} → IsEntry (how.Left c) ts e → IsCond (p + 3 + length ts) us c
      → IsJoin p (Word w.Left ∷ Word w.Outer ∷ Word w.Join ∷ ts ++ us) e

-- {join}
pub data AreJoins : ℕ → List Token → List FromEntry → Type 0 where
  no_joins : {p : ℕ} → AreJoins p [] []
  joins : {p : ℕ} {ts us : List Token} {e : FromEntry} {es : List FromEntry} → IsJoin p ts e → AreJoins (p + length ts) us es → AreJoins p (ts ++ us) (e ∷ es)

-- [WHERE expr], [HAVING expr]
pub data IsClause (word : Reserved) : ℕ → List Token → Option Tree → Type 0 where
  no_clause : {p : ℕ} → IsClause word p [] None
  clause : {p : ℕ} {ts : List Token} {t : Tree} → IsExpr (p + 1) ts t → IsClause word p (Word word ∷ ts) (Some t)

abbrev pub IsColumnAt : ℕ → List Token → ColumnName → Type 0
IsColumnAt p = IsColumn

-- [GROUP BY column {, column}]
pub data AreGroups : ℕ → List Token → List ColumnName → Type 0 where
  no_groups : {p : ℕ} → AreGroups p [] []
  groups : {p : ℕ} {ts : List Token} {cs : List ColumnName} → Separated IsColumnAt (p + 2) ts cs → AreGroups p (Word w.Group ∷ Word w.By ∷ ts) cs

-- number | column
pub data IsKeyBy : List Token → KeyBy → Type 0 where
  by_number : {n : ℕ} → IsKeyBy (Number (pos n) ∷ []) (by.Place (pos n))
  by_column : {ts : List Token} {c : ColumnName} → IsColumn ts c → IsKeyBy ts (by.Column c)

-- [ASC | DESC]: whether the order is descending
pub data IsDirection : List Token → Bool → Type 0 where
  no_direction : IsDirection [] false
  asc : IsDirection (Word w.Asc ∷ []) false
  desc : IsDirection (Word w.Desc ∷ []) true

-- [NULLS (FIRST | LAST)]: whether NULL comes first, as it does in descending order where nothing is written
pub data IsNulls (descending : Bool) : List Token → Bool → Type 0 where
  no_nulls : IsNulls descending [] descending
  nulls_first : IsNulls descending (Word w.Nulls ∷ Word w.First ∷ []) true
  nulls_last : IsNulls descending (Word w.Nulls ∷ Word w.Last ∷ []) false

-- key = (number | column) [ASC | DESC] [NULLS (FIRST | LAST)]
pub data IsKey : ℕ → List Token → OrderKey → Type 0 where
  key : {p : ℕ} {ts us vs : List Token} {b : KeyBy} {d n : Bool} → IsKeyBy ts b → IsDirection us d → IsNulls d vs n
      → IsKey p (ts ++ (us ++ vs)) (record { place = p; by = b; descending = d; nulls_first = n })

-- [ORDER BY key {, key}]
pub data AreKeys : ℕ → List Token → List OrderKey → Type 0 where
  no_keys : {p : ℕ} → AreKeys p [] []
  keys : {p : ℕ} {ts : List Token} {ks : List OrderKey} → Separated IsKey (p + 2) ts ks → AreKeys p (Word w.Order ∷ Word w.By ∷ ts) ks

-- [DISTINCT]
pub data IsDistinct : List Token → Bool → Type 0 where
  all_rows : IsDistinct [] false
  distinct : IsDistinct (Word w.Distinct ∷ []) true

-- FROM entry {join}
pub data IsFrom : ℕ → List Token → List FromEntry → Type 0 where
  from : {p : ℕ} {ts us : List Token} {e : FromEntry} {es : List FromEntry} → IsEntry how.First ts e → AreJoins (p + 1 + length ts) us es
      → IsFrom p (Word w.From ∷ ts ++ us) (e ∷ es)

-- select = SELECT [DISTINCT] (* | item {, item}) FROM entry {join} [WHERE expr] [GROUP BY column {, column}] [HAVING expr] [ORDER BY key {, key}]
pub data IsSelect : ℕ → List Token → Select → Type 0 where
  select : {p : ℕ} {ds is fs ws gs hs os : List Token} {d : Bool} {i : Items} {f : List FromEntry} {c h : Option Tree} {g : List ColumnName} {o : List OrderKey}
      → IsDistinct ds d
      → AreItems (p + 1 + length ds) is i
      → IsFrom (p + 1 + length ds + length is) fs f
      → IsClause w.Where (p + 1 + length ds + length is + length fs) ws c
      → AreGroups (p + 1 + length ds + length is + length fs + length ws) gs g
      → IsClause w.Having (p + 1 + length ds + length is + length fs + length ws + length gs) hs h
      → AreKeys (p + 1 + length ds + length is + length fs + length ws + length gs + length hs) os o
      → IsSelect p (Word w.Select ∷ ds ++ (is ++ (fs ++ (ws ++ (gs ++ (hs ++ os))))))
      (record { distinct = d; items = i; from = f; filter = c; groups = g; having = h; order = o })

-- lit = [-] number | text | TRUE | FALSE | NULL
pub data IsLit : ℕ → List Token → Value → Type 0 where
  number_lit : {p n : ℕ} → IsLit p (Number (pos n) ∷ []) (value.Int (pos n))
  minus_number_lit : {p n : ℕ} → IsLit p (Symbol s.Minus ∷ Number (pos n) ∷ []) (value.Int (neg_ℤ (pos n)))
  text_lit : {p : ℕ} {t : List ℕ} → IsLit p (Text t ∷ []) (value.Text t)
  true_lit : {p : ℕ} → IsLit p (Word w.True ∷ []) (value.Bool true)
  false_lit : {p : ℕ} → IsLit p (Word w.False ∷ []) (value.Bool false)
  null_lit : {p : ℕ} → IsLit p (Word w.Null ∷ []) value.Null

-- row = ( lit {, lit} )
pub data IsRow : ℕ → List Token → List Value → Type 0 where
  row : {p : ℕ} {ts : List Token} {vs : List Value} → Separated IsLit (p + 1) ts vs → IsRow p (Symbol s.Open ∷ ts ++ Symbol s.Close ∷ []) vs

-- [column {, column}]
pub data AreDims : ℕ → List Token → List ColumnName → Type 0 where
  no_dims : {p : ℕ} → AreDims p [] []
  dims : {p : ℕ} {ts : List Token} {cs : List ColumnName} → Separated IsColumnAt p ts cs → AreDims p ts cs

-- in a tile an aggregate's argument is a column
pub data IsMeasure : ℕ → List Token → Tree → Type 0 where
  measure : {p : ℕ} {ts : List Token} {t : Tree} → IsAgg p ts t → of_column t ≡ true → IsMeasure p ts t

-- [MEASURES ( agg {, agg} )]
pub data AreMeasures : ℕ → List Token → Option (List Tree) → Type 0 where
  no_measures : {p : ℕ} → AreMeasures p [] None
  measures : {p : ℕ} {ts : List Token} {ms : List Tree} → Separated IsMeasure (p + 2) ts ms
      → AreMeasures p (Word w.Measures ∷ Symbol s.Open ∷ ts ++ Symbol s.Close ∷ []) (Some ms)

-- ON table tile, where tile = ( [column {, column}] ) [MEASURES ( agg {, agg} )]
pub data IsTile : ℕ → List Token → TileText → Type 0 where
  tile : {p : ℕ} {ts ds ms : List Token} {t : TableName} {cs : List ColumnName} {xs : Option (List Tree)} → IsTable ts t
      → AreDims (p + 1 + length ts + 1) ds cs → AreMeasures (p + 1 + length ts + 1 + length ds + 1) ms xs
      → IsTile p (Word w.On ∷ ts ++ (Symbol s.Open ∷ ds ++ Symbol s.Close ∷ ms)) (record { lattice = t; dims = cs; measures = xs })

-- body = select | EXPLAIN PLAN FOR select | EXPLAIN MEMO FOR select | INSERT INTO table VALUES row {, row} | REFRESH TABLE table
--      | CREATE TILE ON table tile | DROP TILE ON table tile | CHOOSE TILES ON table LIMIT number
pub data IsBody : List Token → Statement → Type 0 where
  query : {ts : List Token} {q : Select} → IsSelect 0 ts q → IsBody ts (statement.Select q)
  explain_plan : {ts : List Token} {q : Select} → IsSelect 3 ts q → IsBody (Word w.Explain ∷ Word w.Plan ∷ Word w.For ∷ ts) (statement.ExplainPlan q)
  explain_memo : {ts : List Token} {q : Select} → IsSelect 3 ts q → IsBody (Word w.Explain ∷ Word w.Memo ∷ Word w.For ∷ ts) (statement.ExplainMemo q)
  insert : {ts us : List Token} {t : TableName} {rows : List (List Value)} → IsTable ts t → Separated IsRow (2 + length ts + 1) us rows
      → IsBody (Word w.Insert ∷ Word w.Into ∷ ts ++ Word w.Values ∷ us) (statement.Insert t rows)
  refresh : {ts : List Token} {t : TableName} → IsTable ts t → IsBody (Word w.Refresh ∷ Word w.Table ∷ ts) (statement.Refresh t)
  create_tile : {ts : List Token} {x : TileText} → IsTile 2 ts x → IsBody (Word w.Create ∷ Word w.Tile ∷ ts) (statement.CreateTile x)
  drop_tile : {ts : List Token} {x : TileText} → IsTile 2 ts x → IsBody (Word w.Drop ∷ Word w.Tile ∷ ts) (statement.DropTile x)
  choose_tiles : {ts : List Token} {t : TableName} {n : ℕ} → IsTable ts t → 1 ≤ n → n ≤ 16
      → IsBody (Word w.Choose ∷ Word w.Tiles ∷ Word w.On ∷ ts ++ Word w.Limit ∷ Number (pos n) ∷ []) (statement.ChooseTiles t n)

-- statement = body [;]
pub data Spells : List Token → Statement → Type 0 where
  body : {ts : List Token} {x : Statement} → IsBody ts x → Spells ts x
  ended : {ts : List Token} {x : Statement} → IsBody ts x → Spells (ts ++ Symbol s.Semicolon ∷ []) x
