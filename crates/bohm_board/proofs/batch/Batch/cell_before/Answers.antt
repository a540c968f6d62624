use Rattle.std.proofs.Common.{◌≡◌, ◌<◌, ℕ, List, Some, length, refl, sym, ap, ◌∙◌, subst, arith}
use Rattle.std.specs.List.{slice_get}
use Rattle.std.specs.Option.{option_map}
use Rattle.std.proofs.lemmas.List.{length-map}
use Rattle.std.proofs.lemmas.Option.{same_Some, slice_get_read, slice_get_within}
use Rattle.bohm_place.specs.declared.access.Access.{Access}
use Rattle.bohm_place.specs.declared.access.Source.TheVariants.{Before}
use Rattle.bohm_board.specs.declared.base.Base.{Base}
use Rattle.bohm_board.specs.Bases.{cells_of, keys_of}
use Rattle.bohm_board.specs.Batches.{key_in}
use Rattle.bohm_board.proofs.BasePlaces.{placed}
use Rattle.bohm_board.proofs.DeclaredPlaces.{steady_there}
use Rattle.bohm_board.proofs.EntrySearch.{Entry}
use Rattle.bohm_board.proofs.SlotNumbers.{txn_there}
use Rattle.bohm_board.proofs.WantedSources.{keys_paired}
use Rattle.bohm_board.proofs.batch.Batch.cell_before.Goals as goal
use Rattle.bohm_board.proofs.batch.Batch.cell_before.Goals.{After-as_slice, Start}

key_placed : (c : After-as_slice) → (k : List ℕ) × (key_in c.args.set c.args.self.now c.args.t c.args.index ≡ Some k)
    × (slice_get (keys_of c.in-Listed.entries) c.access-access.result.index ≡ Some k)
key_placed c =
    let a = c.access-access.result in
    let before : a.source ≡ Before = same_Some a.source Before (ap (option_map (λ (x : Access). x.source)) (sym c.access-access.ensures) ∙ c.requires.source) in
    placed c.args.self.now c.in-Listed.entries c.args.set c.args.t c.args.index a c.requires.txn c.in-Listed.is c.access-access.ensures before

inside : (c : After-as_slice) → c.access-access.result.index < length c.as_slice.result.now
inside c =
    let (k, named, at) = key_placed c in
    omega (
      arith,
      slice_get_within (keys_of c.in-Listed.entries) c.access-access.result.index k at,
      length-map c.in-Listed.entries (λ (e : Entry). e.0),
      ap length c.as_slice.ensures,
    )

pub bounds-as_slice-access : goal.bounds-as_slice-access
bounds-as_slice-access c = inside (goal.at.bounds-as_slice-access c).After-as_slice

pub bounds-as_slice-access-in-Listed : goal.bounds-as_slice-access-in-Listed
bounds-as_slice-access-in-Listed c = inside (goal.at.bounds-as_slice-access-in-Listed c).After-as_slice

pub returns-in-Listed : goal.returns-in-Listed
returns-in-Listed c =
    let here = (goal.at.returns-in-Listed c).After-as_slice in
    let b = c.args.self.now in
    let entries = c.in-Listed.entries in
    let i = c.access-access.result.index in
    let xs = c.as_slice.result.now in
    let x : Entry = c.index-as_slice-access.result in
    let (k, named, at) = key_placed here in
    let entry : slice_get entries i ≡ Some x = subst (λ (l : List Entry). slice_get l i ≡ Some x) c.as_slice.ensures
    (slice_get_read xs (length xs) i x refl (inside here) c.index-as_slice-access.is) in
    ap (option_map (cells_of b.base)) named ∙ ap (λ z. Some z)
    (ap (λ (base : Base). cells_of base k) c.in-Listed.is
    ∙ steady_there entries i k x (b.based entries c.in-Listed.is).0 entry at ∙ ap (λ (e : Entry). e.1) c.index-as_slice-access.is)

within : (c : Start) → c.args.index < length c.args.keys.now
within c =
    let (x, at) = txn_there c.args.self.now c.args.t c.requires.txn in
    omega (arith, c.requires.index, keys_paired c.args.self.now c.args.set c.args.t x at, ap length (c.requires.keys x at))

pub number-requires : goal.number-requires
number-requires c = within (goal.at.number-requires c).Start

pub key-requires : goal.key-requires
key-requires c = within (goal.at.key-requires c).Start

pub returns-in-Top : goal.returns-in-Top
returns-in-Top c =
    let b = c.args.self.now in
    let k = c.key.result.now in
    let (x, at) = txn_there b c.args.t c.requires.txn in
    let key : slice_get c.args.keys.now c.args.index ≡ Some k = c.key.ensures in
    let named : key_in c.args.set b c.args.t c.args.index ≡ Some k =
    rw at (subst (λ (ks : List (List ℕ)). slice_get ks c.args.index ≡ Some k) (c.requires.keys x at) key) in
    ap (option_map (cells_of b.base)) named ∙ ap (λ z. Some z) (ap (λ (base : Base). cells_of base k) c.in-Top.is ∙ sym c.cell.ensures)
