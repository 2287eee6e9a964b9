-- What a desk gives now is none of what a session has in hand.
use Rattle.trio_edit_laws.proofs.Words.{◌++◌, ◌∙◌, HandsInAll, HoldParts, In, In-left, In-map, In-right, LentFile, LibOut, List, Parcel, Shown, arith, file_numbers, files_out, hold_numbers, map, map-In, subst, sym, ℕ}

module _ (out : LibOut) (b : Parcel) (back : List Shown) (all : HandsInAll out b back) where
  abbrev writes : List ℕ
  writes = map (λ (w : Shown). w.ino) out.writes

  abbrev reads : List ℕ
  reads = map (λ (r : Shown). r.ino) out.reads

  -- a file that is written is out
  pub written_out : (n : ℕ) → In n (file_numbers b.writes) → In n (files_out out)
  written_out n i =
      let f = map-In (λ (x : LentFile). x.stands.ino) n b.writes i in
      let is = all.given.writes f.0 f.1 in
      In-left n (writes ++ reads) (hold_numbers out.holds)
      (In-left n writes reads (subst (λ k. In k writes) (sym (f.2 ∙ is.same.ino)) (In-map (λ (w : Shown). w.ino) f.0.lent out.writes is.lent)))

  -- so is one that is held
  pub held_out : (n : ℕ) → In n (hold_numbers b.holds) → In n (files_out out)
  held_out n i =
      let h = map-In (λ (x : HoldParts). x.ino) n b.holds i in
      In-right n (writes ++ reads) (hold_numbers out.holds) (subst (λ k. In k (hold_numbers out.holds)) (sym h.2) (In-map (λ (x : HoldParts). x.ino) h.0 out.holds (all.given.holds h.0 h.1)))

  -- and one that is read
  pub read_out : (n : ℕ) → In n (map (λ (f : Shown). f.ino) back) → In n (files_out out)
  read_out n i = search (arith, map-In, In-left, In-right, In-map)
