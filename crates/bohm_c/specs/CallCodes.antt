-- How the logic encodes procedures and lists of calls.
use Rattle.std.specs.Prelude.{◌≡◌, ℕ, zero, suc, ℤ, Bool, true, false, List, [], Option, Some, None, Result, Ok, Err, refl}
use Rattle.std.specs.Coded.{Coded, code_by, coded×, coded_ℕ, coded_ℤ, coded_bool, coded_list, coded_option, coded_result}
use Rattle.bohm_types.specs.declared.cmp.Cmp.{Cmp}
use Rattle.bohm_types.specs.declared.cmp.Cmp.TheVariants.{Lt, Le, Eq, Ge, Gt}
use Rattle.bohm_types.specs.declared.edition.Edition.{Edition}
use Rattle.bohm_types.specs.declared.edition.Edition.TheVariants.{One, Two}
use Rattle.bohm_types.specs.Document.{Document}
use Rattle.bohm_types.specs.Procedure.{Procedure}
use Rattle.bohm_types.specs.Stmt.{Cond, Stmt, Bind, Need, Has, Lacks, Put, Remove, Show, Fail}
use Rattle.bohm_types.specs.Term.{Atom, Lit, Read, Local}
use Rattle.bohm_types.specs.Txn.{Txn}
use Rattle.bohm_c.specs.Listed.{Listed}

abbrev Names : Type 0
Names = List (List ℕ)

abbrev names_code : Coded Names
names_code = coded_list (coded_list coded_ℕ)

-- ---- editions and comparisons

abbrev is_two : Edition → Bool
is_two One = false
is_two Two = true

abbrev edition_by : Bool → Edition
edition_by false = One
edition_by true = Two

pub edition_back : (e : Edition) → edition_by (is_two e) ≡ e
edition_back One = refl
edition_back Two = refl

abbrev edition_code : Coded Edition
edition_code = code_by Bool coded_bool is_two edition_by edition_back

abbrev number_of : Cmp → ℕ
number_of Lt = 0
number_of Le = 1
number_of Eq = 2
number_of Ge = 3
number_of Gt = 4

abbrev cmp_of : ℕ → Cmp
cmp_of zero = Lt
cmp_of (suc zero) = Le
cmp_of (suc (suc zero)) = Eq
cmp_of (suc (suc (suc zero))) = Ge
cmp_of (suc (suc (suc (suc n)))) = Gt

pub cmp_back : (c : Cmp) → cmp_of (number_of c) ≡ c
cmp_back Lt = refl
cmp_back Le = refl
cmp_back Eq = refl
cmp_back Ge = refl
cmp_back Gt = refl

abbrev cmp_code : Coded Cmp
cmp_code = code_by ℕ coded_ℕ number_of cmp_of cmp_back

-- ---- terms

abbrev parts_of : Atom → Result ℕ (Bool × List ℕ)
parts_of (Lit n) = Ok n
parts_of (Read k) = Err (true, k)
parts_of (Local x) = Err (false, x)

abbrev name_by : Bool → List ℕ → Atom
name_by true k = Read k
name_by false x = Local x

abbrev atom_of : Result ℕ (Bool × List ℕ) → Atom
atom_of (Ok n) = Lit n
atom_of (Err p) = name_by p.0 p.1

pub atom_back : (a : Atom) → atom_of (parts_of a) ≡ a
atom_back (Lit n) = refl
atom_back (Read k) = refl
atom_back (Local x) = refl

abbrev atom_code : Coded Atom
atom_code = code_by (Result ℕ (Bool × List ℕ)) (coded_result coded_ℕ (coded× coded_bool (coded_list coded_ℕ))) parts_of atom_of atom_back

abbrev Sum : Type 0
Sum = List (Bool × Atom)

abbrev sum_code : Coded Sum
sum_code = coded_list (coded× coded_bool atom_code)

abbrev cond_code : Coded Cond
cond_code = code_by (Sum × (Cmp × Sum)) (coded× sum_code (coded× cmp_code sum_code)) (λ c. (c.left, (c.cmp, c.right)))
    (λ p. record { left = p.0; cmp = p.1.0; right = p.1.1 }) (λ _. refl)

-- ---- statements: the kind, the name, the sum, the condition

abbrev Fields : Type 0
Fields = (ℕ × List ℕ) × (Sum × Option Cond)

abbrev fields_of : Stmt → Fields
fields_of (Bind x sum) = ((0, x), (sum, None))
fields_of (Need c) = ((1, []), ([], Some c))
fields_of (Has k) = ((2, k), ([], None))
fields_of (Lacks k) = ((3, k), ([], None))
fields_of (Put k sum guard) = ((4, k), (sum, guard))
fields_of (Remove k) = ((5, k), ([], None))
fields_of (Show sum) = ((6, []), (sum, None))
fields_of Fail = ((7, []), ([], None))

abbrev need_by : Option Cond → Stmt
need_by None = Fail
need_by (Some c) = Need c

abbrev stmt_by : ℕ → List ℕ → Sum → Option Cond → Stmt
stmt_by zero name sum cond = Bind name sum
stmt_by (suc zero) name sum cond = need_by cond
stmt_by (suc (suc zero)) name sum cond = Has name
stmt_by (suc (suc (suc zero))) name sum cond = Lacks name
stmt_by (suc (suc (suc (suc zero)))) name sum cond = Put name sum cond
stmt_by (suc (suc (suc (suc (suc zero))))) name sum cond = Remove name
stmt_by (suc (suc (suc (suc (suc (suc zero)))))) name sum cond = Show sum
stmt_by (suc (suc (suc (suc (suc (suc (suc n))))))) name sum cond = Fail

abbrev stmt_of : Fields → Stmt
stmt_of f = stmt_by f.0.0 f.0.1 f.1.0 f.1.1

pub stmt_back : (s : Stmt) → stmt_of (fields_of s) ≡ s
stmt_back (Bind x sum) = refl
stmt_back (Need c) = refl
stmt_back (Has k) = refl
stmt_back (Lacks k) = refl
stmt_back (Put k sum guard) = refl
stmt_back (Remove k) = refl
stmt_back (Show sum) = refl
stmt_back Fail = refl

abbrev stmt_code : Coded Stmt
stmt_code = code_by Fields (coded× (coded× coded_ℕ (coded_list coded_ℕ)) (coded× sum_code (coded_option cond_code))) fields_of stmt_of stmt_back

-- ---- what handles keep

abbrev pub procedure_code : Coded Procedure
procedure_code = code_by ((Edition × (Names × Names)) × ((Names × Names) × List Stmt))
    (coded× (coded× edition_code (coded× names_code names_code)) (coded× (coded× names_code names_code) (coded_list stmt_code)))
    (λ p. ((p.edition, (p.keys, p.values)), ((p.reads, p.writes), p.body)))
    (λ q. record { edition = q.0.0; keys = q.0.1.0; values = q.0.1.1; reads = q.1.0.0; writes = q.1.0.1; body = q.1.1 }) (λ _. refl)

abbrev txn_code : Coded Txn
txn_code = code_by ((Edition × List Stmt) × (Names × Names)) (coded× (coded× edition_code (coded_list stmt_code)) (coded× names_code names_code))
    (λ t. ((t.edition, t.body), (t.reads, t.writes))) (λ q. record { edition = q.0.0; reads = q.1.0; writes = q.1.1; body = q.0.1 }) (λ _. refl)

abbrev document_code : Coded Document
document_code = code_by (Edition × (List (List ℕ × ℤ) × List Txn))
    (coded× edition_code (coded× (coded_list (coded× (coded_list coded_ℕ) coded_ℤ)) (coded_list txn_code)))
    (λ d. (d.edition, (d.store, d.log))) (λ q. record { edition = q.0; store = q.1.0; log = q.1.1 }) (λ _. refl)

abbrev pub listed_code : Coded Listed
listed_code = code_by (Document × Names) (coded× document_code names_code) (λ l. (l.calls, l.names)) (λ q. record { calls = q.0; names = q.1 }) (λ _. refl)
