-- A library has all leases and holds that are out, through all that its desk answers.
use Rattle.trio_raw.proofs.Words.{◌++◌, ◌∙◌, ◌∷◌, ◌≡◌, Has, HasLeases, Hold, HoldParts, In, In-cases, In-left, In-map, In-right, IsFreshLease, Lease, LentFile, LibNo, LibOut, List, OutAlike, Read, Shown, Sizes, Write, [], ap, are_new, both_ways, file_numbers, has_all_of, hold_numbers, inl, inr, is_among, keeps_lease, map, map-In, map-append, named, not, parcel_named, refl, rest_of, subst, sym, true, with_lease, with_parcel, without_all, without_parcel, ℕ}
use Rattle.std.proofs.lemmas.Bool.{not-true}
use Rattle.trio_lists.proofs.Filters.{filter-In}
use Rattle.trio_lists.proofs.Members.{In-is_among}
use Rattle.trio_raw.proofs.Once.{left_or_named}
use Rattle.trio_raw.proofs.Names.{names_once}

pub leases_alike : (a b : LibOut) (has : Has) → OutAlike a b → HasLeases b has → HasLeases a has
leases_alike a b has same h = record {
  writes = λ w i. h.writes w (subst (In w) same.writes i);
  holds = λ k i. h.holds k (subst (In k) same.holds i);
}

-- so it is where both have the same leases
pub leases_same : (a b : LibOut) (has has' : Has) → a.writes ≡ b.writes → a.holds ≡ b.holds → file_numbers has'.writes ≡ file_numbers has.writes → hold_numbers has'.holds ≡ hold_numbers has.holds → HasLeases b has → HasLeases a has'
leases_same a b has has' w h ws hs l = record {
  writes = λ x i. subst (In x.ino) (sym ws) (l.writes x (subst (In x) w i));
  holds = λ k i. subst (In k.ino) (sym hs) (l.holds k (subst (In k) h i));
}

-- one more on both
more : {X Y : Type 0} (f : X → ℕ) (g : Y → ℕ) (outs : List X) (xs : List Y) (x : X) (y : Y) → g y ≡ f x → ((z : X) → In z outs → In (f z) (map g xs)) → (z : X) → In z (outs ++ x ∷ []) → In (f z) (map g (xs ++ y ∷ []))
more f g outs xs x y e h z i =
    subst (In (f z)) (sym (map-append g xs (y ∷ []))) (elim (In-cases z outs (x ∷ []) i) [
      | inl a ↦ In-left (f z) (map g xs) (g y ∷ []) (h z a)
      | inr b ↦ In-right (f z) (map g xs) (g y ∷ []) (elim b [ inl s ↦ inl (ap f s ∙ sym e) | inr k ↦ absurd k ])
    ])

pub leases-lease : (lib : LibNo) (ino : ℕ) (sizes : Sizes) (out : LibOut) (has : Has) (lease : Lease) → IsFreshLease lib ino sizes out lease → HasLeases out has → HasLeases (with_lease out lease) (keeps_lease has lease)
leases-lease lib ino sizes out has (Write f) fresh h = record {
  writes = more (λ (w : Shown). w.ino) (λ (x : LentFile). x.stands.ino) out.writes has.writes f.lent f (ap (λ (s : Shown). s.ino) fresh.is.as_lent) h.writes;
  holds = h.holds;
}
leases-lease lib ino sizes out has (Read r) fresh h = record { writes = h.writes; holds = h.holds }
leases-lease lib ino sizes out has (Hold k) fresh h = record {
  writes = h.writes;
  holds = more (λ (x : HoldParts). x.ino) (λ (x : HoldParts). x.ino) out.holds has.holds k k refl h.holds;
}

module _ {X : Type 0} (number : X → ℕ) (xs : List X) (names : List ℕ) (once : are_new [] names ≡ true) where
  -- of a number that no named thing has, it is left
  left_of : (n : ℕ) → In n (map number xs) → not (is_among n (map number (named number xs names))) ≡ true → In n (map number (without_all number xs names))
  left_of n i unnamed =
      let r = map-In number n xs i in
      elim (left_or_named number xs names r.0 once r.1) [
        | inl a ↦ subst (λ m. In m (map number (without_all number xs names))) (sym r.2) (In-map number r.0 (without_all number xs names) a)
        | inr b ↦
            (let among : is_among n (map number (named number xs names)) ≡ true = ap (λ m. is_among m (map number (named number xs names))) r.2 ∙ In-is_among (number r.0) (map number (named number xs names)) (In-map number r.0 (named number xs names) b) in
            absurd (both_ways (is_among n (map number (named number xs names))) (not-true (is_among n (map number (named number xs names))) unnamed) among))
      ]

  -- and all of it is back
  returned : (n : ℕ) → In n (map number xs) → In n (map number (without_all number xs names ++ named number xs names))
  returned n i =
      let r = map-In number n xs i in
      let back = without_all number xs names ++ named number xs names in
      subst (λ m. In m (map number back)) (sym r.2) (In-map number r.0 back (elim (left_or_named number xs names r.0 once r.1) [
        | inl a ↦ In-left r.0 (without_all number xs names) (named number xs names) a
        | inr b ↦ In-right r.0 (without_all number xs names) (named number xs names) b
      ]))

pub leases-rest : (out : LibOut) (has : Has) (inos pages numbers : List ℕ) → has_all_of has inos pages numbers ≡ true → HasLeases out has → HasLeases (without_parcel out (parcel_named has inos pages numbers)) (rest_of has inos pages numbers)
leases-rest out has inos pages numbers all h =
    let once = (names_once has inos pages numbers all).0 in
    let ino : LentFile → ℕ = λ f. f.stands.ino in
    let held : HoldParts → ℕ = λ k. k.ino in
    record {
      writes = λ w i.
          let r = filter-In (λ (x : Shown). not (is_among x.ino (file_numbers (named ino has.writes inos)))) w out.writes i in
          left_of ino has.writes inos once w.ino (h.writes w r.0) r.1;
      holds = λ k i.
          let r = filter-In (λ (x : HoldParts). not (is_among x.ino (hold_numbers (named held has.holds inos)))) k out.holds i in
          left_of held has.holds inos once k.ino (h.holds k r.0) r.1;
    }

pub leases-returned : (out : LibOut) (has : Has) (inos pages numbers : List ℕ) → has_all_of has inos pages numbers ≡ true → HasLeases out has → HasLeases out (with_parcel (rest_of has inos pages numbers) (parcel_named has inos pages numbers))
leases-returned out has inos pages numbers all h =
    let once = (names_once has inos pages numbers all).0 in
    record {
      writes = λ w i. returned (λ (f : LentFile). f.stands.ino) has.writes inos once w.ino (h.writes w i);
      holds = λ k i. returned (λ (k : HoldParts). k.ino) has.holds inos once k.ino (h.holds k i);
    }
