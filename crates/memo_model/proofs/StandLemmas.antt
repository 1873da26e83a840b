-- What stands in a set means what the set means; and a tree stands in at most one set.
use Rattle.std.proofs.Common.{◌≡◌, ℕ, List, [], get_or, sym, ◌∙◌, ap}
use Rattle.std.proofs.lemmas.List.{get_or_default}
use Rattle.cal_rel.specs.Holes.{filled}
use Rattle.cal_rel.specs.Info.{Info}
use Rattle.cal_rel.specs.Tree.{Tree, leaf, unary, binary, hole}
use Rattle.memo_model.specs.Sets.{Member, Sets, seed_at, Has, Stands}
use Rattle.memo_model.specs.Sound.{over, Means, IsCoherent, IsUnique}
use Rattle.memo_model.specs.Relations.{StandsBy}
use Rattle.memo_model.proofs.MeansLemmas.{means-refl, means-trans, means-unary, means-binary}

pub stands-means : (info : Info) (m : Sets) → IsCoherent info m → (s : ℕ) (t : Tree) → Stands m.members s t → Means info m.seeds t s
stands-means info m coherent s (leaf l) e = (coherent.members s (leaf l) e).means
stands-means info m coherent s (unary u t) e =
    let g = seed_at m.seeds in
    means-trans (over info []) (unary u (filled g t)) (unary u (g e.0)) (g s)
    (means-unary (over info []) u (filled g t) (g e.0) (stands-means info m coherent e.0 t e.2)) (coherent.members s (unary u (hole e.0)) e.1).means
stands-means info m coherent s (binary n a b) e =
    let g = seed_at m.seeds in
    means-trans (over info []) (binary n (filled g a) (filled g b)) (binary n (g e.0) (g e.1)) (g s)
    (means-binary (over info []) n (filled g a) (filled g b) (g e.0) (g e.1) (stands-means info m coherent e.0 a e.3) (stands-means info m coherent e.1 b e.4))
    (coherent.members s (binary n (hole e.0) (hole e.1)) e.2).means
stands-means info m coherent s (hole k) e = rw e (means-refl (over info []) (seed_at m.seeds s))

-- more members

pub stands-more : (xs ys : List Member) → ((s : ℕ) (node : Tree) → Has xs s node → Has ys s node) → (s : ℕ) (t : Tree) → Stands xs s t → Stands ys s t
stands-more xs ys h s (leaf l) e = h s (leaf l) e
stands-more xs ys h s (unary u t) e = (e.0, h s (unary u (hole e.0)) e.1, stands-more xs ys h e.0 t e.2)
stands-more xs ys h s (binary n a b) e = (e.0, e.1, h s (binary n (hole e.0) (hole e.1)) e.2, stands-more xs ys h e.0 a e.3, stands-more xs ys h e.1 b e.4)
stands-more xs ys h s (hole k) e = e

pub stands_by-more : (xs ys : List Member) → ((s : ℕ) (node : Tree) → Has xs s node → Has ys s node) → (s : ℕ) (node t : Tree) → StandsBy xs s node t → StandsBy ys s node t
stands_by-more xs ys h s node (leaf l) e = (e.0, h s node e.1)
stands_by-more xs ys h s node (unary u t) e = (e.0, e.1, h s node e.2, stands-more xs ys h e.0 t e.3)
stands_by-more xs ys h s node (binary n a b) e = (e.0, e.1, e.2, h s node e.3, stands-more xs ys h e.0 a e.4, stands-more xs ys h e.1 b e.5)
stands_by-more xs ys h s node (hole k) e = e

-- where no expression occurs twice, a tree stands in one set alone

has-once : (xs : List Member) → IsUnique xs → (s r : ℕ) (node : Tree) → Has xs s node → Has xs r node → s ≡ r
has-once xs unique s r node h k =
    let x : Member = record { set = s; tree = node } in
    let y : Member = record { set = r; tree = node } in
    let i = h.at.0 in
    let j = k.at.0 in
    let at_x : get_or xs i x ≡ x = h.at.2 in
    let at_y : get_or xs j y ≡ y = k.at.2 in
    let far : get_or xs j x ≡ y = get_or_default xs j x y k.at.1 ∙ at_y in
    let e : i ≡ j = unique.once i j x h.at.1 k.at.1 (ap (λ (z : Member). z.tree) at_x ∙ sym (ap (λ (z : Member). z.tree) far)) in
    ap (λ (z : Member). z.set) (sym at_x ∙ ap (λ n. get_or xs n x) e ∙ far)

pub stands-once : (xs : List Member) → IsUnique xs → (s r : ℕ) (t : Tree) → Stands xs s t → Stands xs r t → s ≡ r
stands-once xs unique s r (leaf l) e f = has-once xs unique s r (leaf l) e f
stands-once xs unique s r (unary u t) e f =
    let k = stands-once xs unique e.0 f.0 t e.2 f.2 in
    let same : Has xs r (unary u (hole e.0)) = rw k f.1 in
    has-once xs unique s r (unary u (hole e.0)) e.1 same
stands-once xs unique s r (binary n a b) e f =
    let k = stands-once xs unique e.0 f.0 a e.3 f.3 in
    let l = stands-once xs unique e.1 f.1 b e.4 f.4 in
    let same : Has xs r (binary n (hole e.0) (hole e.1)) = rw (k, l) f.2 in
    has-once xs unique s r (binary n (hole e.0) (hole e.1)) e.2 same
stands-once xs unique s r (hole k) e f = sym e ∙ f
