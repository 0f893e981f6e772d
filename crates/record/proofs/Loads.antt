-- What stands in the buffers once the parts of a record are loaded into the first of their cells.
-- Assumes nothing.
use Rattle.std.proofs.Common.{◌≡◌, ℕ, ◌+◌, ◌-◌, ◌≤◌, List, ◌++◌, length, take, drop, ap, ◌∙◌, arith, append_assoc, append-nil, length-append, length-drop, take_all, take_at, drop_at, drop-drop}
use Rattle.std.proofs.lemmas.List.{drop_all}
use Rattle.std.proofs.lemmas.List.Edits.{sets}
use borrow.Rule.Slice.PartMut.{put_mid}
use Rattle.record.proofs.Used.{front_set}

-- cells in the place of a buffer's first
pub front_loaded : (l : List ℕ) {vs new : List ℕ} {n m : ℕ} → new ≡ vs → n ≡ m → length vs ≡ m → m ≤ length l → new ++ drop n l ≡ sets l 0 vs
front_loaded l {vs} {new} {n} {m} e f h room = cc (front_set m vs l h room)

-- r cells in the place of a buffer's first, and e more in the place of the first of the rest
pub both_loaded : (r e k : ℕ) (reads evals nodes mid new : List ℕ) → mid ≡ sets nodes 0 reads → new ≡ sets (take k (drop r mid)) 0 evals → k ≡ length mid - r
    → length reads ≡ r → length evals ≡ e → r + e ≤ length nodes → put_mid r k mid new ≡ sets nodes 0 (reads ++ evals)
both_loaded r e k reads evals nodes mid new q n f lr le room =
    let m : mid ≡ reads ++ drop r nodes = q ∙ front_set r reads nodes lr (omega arith) in
    let t : take r mid ≡ reads = ap (take r) m ∙ take_at reads (drop r nodes) r lr in
    let d : drop r mid ≡ drop r nodes = ap (drop r) m ∙ drop_at reads (drop r nodes) r lr in
    let l : length (drop r mid) ≤ k = omega (arith, length-drop r mid) in
    cc (
      t,
      d,
      take_all k (drop r mid) l,
      drop_all k (drop r mid) l,
      front_set e evals (drop r nodes) le (omega (arith, length-drop r nodes)),
      front_set (r + e) (reads ++ evals) nodes (omega (arith, length-append reads evals)) room,
      append-nil (evals ++ drop e (drop r nodes)),
      append_assoc reads evals (drop (r + e) nodes),
      drop-drop e r nodes,
    )
