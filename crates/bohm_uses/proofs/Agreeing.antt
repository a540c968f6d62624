-- What two results have in common.
use Rattle.std.proofs.Common.{Result, Ok, Err, IfOk, IfErr}

pub both_ok : {V W E F : Type 0} (a : Result V E) (b : Result W F) (P : V → Type 0) (Q : W → Type 0) (R : V → W → Type 0) → IfOk a P → IfOk b Q
    → ((x : V) (y : W) → P x → Q y → R x y) → IfOk a (λ x. IfOk b (λ y. R x y))
both_ok (Ok x) (Ok y) P Q R h k f = f x y h k
both_ok (Ok x) (Err e) P Q R h k f = tt
both_ok (Err e) b P Q R h k f = tt

pub both_err : {V W E F : Type 0} (a : Result V E) (b : Result W F) (P : E → Type 0) (Q : F → Type 0) (R : E → F → Type 0) → IfErr a P → IfErr b Q
    → ((x : E) (y : F) → P x → Q y → R x y) → IfErr a (λ x. IfErr b (λ y. R x y))
both_err (Err x) (Err y) P Q R h k f = f x y h k
both_err (Err x) (Ok v) P Q R h k f = tt
both_err (Ok v) b P Q R h k f = tt

pub ok_err : {V W E F : Type 0} (a : Result V E) (b : Result W F) (P : V → Type 0) (Q : F → Type 0) (R : V → F → Type 0) → IfOk a P → IfErr b Q
    → ((x : V) (y : F) → P x → Q y → R x y) → IfOk a (λ x. IfErr b (λ y. R x y))
ok_err (Ok x) (Err y) P Q R h k f = f x y h k
ok_err (Ok x) (Ok w) P Q R h k f = tt
ok_err (Err e) b P Q R h k f = tt
