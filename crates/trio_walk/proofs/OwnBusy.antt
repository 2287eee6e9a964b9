-- Grants of the session's own that exclude one that is asked, by the leases that it took.
use Rattle.trio_walk.proofs.Words.{◌∙◌, ◌∷◌, ◌≡◌, ◌⊎◌, GrantKind, Hold, HoldLease, HoldParts, In, In-cases, IsOwnBusy, Lease, LentFile, List, Parcel, ReadLease, SessionSeen, Shown, TookLeases, WriteLease, [], ap, file_numbers, file_of, hold_numbers, inl, inr, map, map-append, refl, subst, sym, with_lease, with_leases, ℕ}
use Rattle.trio_nodes.specs.declared.grant.GrantKind.TheVariants.{Read as ToRead}
use Rattle.trio_walk.specs.Tries.{HasNothing}

-- the number of a lease's file, as it stands
abbrev number : Lease → ℕ
number (WriteLease f) = f.stands.ino
number (ReadLease f) = f.ino
number (HoldLease h) = h.ino

-- it excludes a grant of this kind on its file
abbrev pub Excludes : Lease → GrantKind → Type 0
Excludes (WriteLease f) kind = kind ≡ Hold
Excludes (ReadLease f) kind = kind ≡ ToRead → ⊥
Excludes (HoldLease h) kind = Unit {0}

off_one : (s : SessionSeen) (n : ℕ) (kind : GrantKind) (l : Lease) → IsOwnBusy (with_lease s l) n kind → IsOwnBusy s n kind ⊎ ((number l ≡ n) × Excludes l kind)
off_one s n kind (WriteLease f) b =
    elim b.has [
      | inl r ↦ inl (record { has = inl r })
      | inr (inl w) ↦
          elim (In-cases n (file_numbers s.parcel.writes) (f.stands.ino ∷ []) (subst (λ l. In n l) (map-append (λ (g : LentFile). g.stands.ino) s.parcel.writes (f ∷ [])) w.0)) [
            | inl o ↦ inl (record { has = inr (inl (o, w.1)) })
            | inr (inl e) ↦ inr (sym e, w.1)
            | inr (inr none) ↦ absurd none
          ]
      | inr (inr h) ↦ inl (record { has = inr (inr h) })
    ]
off_one s n kind (ReadLease f) b =
    elim b.has [
      | inl r ↦
          elim (In-cases n (map (λ (g : Shown). g.ino) s.reads) (f.ino ∷ []) (subst (λ l. In n l) (map-append (λ (g : Shown). g.ino) s.reads (f ∷ [])) r.0)) [
            | inl o ↦ inl (record { has = inl (o, r.1) })
            | inr (inl e) ↦ inr (sym e, r.1)
            | inr (inr none) ↦ absurd none
          ]
      | inr (inl w) ↦ inl (record { has = inr (inl w) })
      | inr (inr h) ↦ inl (record { has = inr (inr h) })
    ]
off_one s n kind (HoldLease h) b =
    elim b.has [
      | inl r ↦ inl (record { has = inl r })
      | inr (inl w) ↦ inl (record { has = inr (inl w) })
      | inr (inr k) ↦
          elim (In-cases n (hold_numbers s.parcel.holds) (h.ino ∷ []) (subst (λ l. In n l) (map-append (λ (g : HoldParts). g.ino) s.parcel.holds (h ∷ [])) k)) [
            | inl o ↦ inl (record { has = inr (inr o) })
            | inr (inl e) ↦ inr (sym e, tt)
            | inr (inr none) ↦ absurd none
          ]
    ]

off_more : (more : List Lease) (s : SessionSeen) (n : ℕ) (kind : GrantKind) → IsOwnBusy (with_leases s more) n kind → IsOwnBusy s n kind ⊎ ((l : Lease) × In l more × (number l ≡ n) × Excludes l kind)
off_more [] s n kind b = inl b
off_more (l ∷ more) s n kind b =
    elim (off_more more (with_lease s l) n kind b) [
      | inl o ↦ elim (off_one s n kind l o) [ inl old ↦ inl old | inr e ↦ inr (l, inl refl, e.0, e.1) ]
      | inr x ↦ inr (x.0, inr x.1, x.2, x.3)
    ]

lent_number : (l : Lease) (more : List Lease) → In l more → ((f : LentFile) → In (WriteLease f) more → f.stands ≡ f.lent) → number l ≡ file_of l
lent_number (WriteLease f) more i as_lent = ap (λ (z : Shown). z.ino) (as_lent f i)
lent_number (ReadLease f) more i as_lent = refl
lent_number (HoldLease h) more i as_lent = refl

-- it goes by what is in hand alone
pub busy_by : (x y : SessionSeen) (n : ℕ) (kind : GrantKind) → x.parcel ≡ y.parcel → x.reads ≡ y.reads → IsOwnBusy x n kind → IsOwnBusy y n kind
busy_by x y n kind parcel reads b = record {
  has = elim b.has [
    | inl r ↦ inl (subst (λ (l : List Shown). In n (map (λ (g : Shown). g.ino) l)) reads r.0, r.1)
    | inr (inl z) ↦ inr (inl (subst (λ b. In n (file_numbers b.writes)) parcel z.0, z.1))
    | inr (inr h) ↦ inr (inr (subst (λ b. In n (hold_numbers b.holds)) parcel h))
  ];
}

-- a session that took these was kept busy before, or is by one of them
pub busy_took : (s s' : SessionSeen) (more : List Lease) → TookLeases s more s' → ((f : LentFile) → In (WriteLease f) more → f.stands ≡ f.lent) → (n : ℕ) (kind : GrantKind) → IsOwnBusy s' n kind
    → IsOwnBusy s n kind ⊎ ((l : Lease) × In l more × (file_of l ≡ n) × Excludes l kind)
busy_took s s' more took as_lent n kind b =
    elim (off_more more s n kind (busy_by s' (with_leases s more) n kind (ap (λ (q : SessionSeen). q.parcel) took.same) (ap (λ (q : SessionSeen). q.reads) took.same) b)) [
      | inl old ↦ inl old
      | inr l ↦ inr (l.0, l.1, sym (lent_number l.0 more l.1 as_lent) ∙ l.2, l.3)
    ]

-- one that has nothing keeps no file busy
pub nothing_own : (s : SessionSeen) (n : ℕ) (kind : GrantKind) → HasNothing s → IsOwnBusy s n kind → ⊥
nothing_own s n kind none own =
    elim own.has [
      | inl r ↦ subst (λ (l : List Shown). In n (map (λ (f : Shown). f.ino) l)) none.reads r.0
      | inr (inl w) ↦ subst (λ (b : Parcel). In n (file_numbers b.writes)) none.parcel w.0
      | inr (inr h) ↦ subst (λ (b : Parcel). In n (hold_numbers b.holds)) none.parcel h
    ]
