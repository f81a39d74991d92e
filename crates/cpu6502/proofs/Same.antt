-- Machines that are the same in all that is compared are one.
use Rattle.std.proofs.Common.{◌≡◌, ℕ, ◌&&◌, Bool, true, false, nat_eq, refl, ap, ◌∙◌}
use Rattle.std.proofs.Math.Bool.{beq}
use Rattle.std.proofs.lemmas.Bool.{and_parts, eqb-true, eq-eqb}
use Rattle.cpu6502.specs.declared.cpu.Cpu.{Cpu}
use Rattle.cpu6502.specs.declared.machine.Machine.{Machine}

-- what comparing the registers and the flags computes
abbrev pub same_cpu : Cpu → Cpu → Bool
same_cpu p q =
    nat_eq p.a q.a && (nat_eq p.x q.x && (nat_eq p.y q.y && (nat_eq p.sp q.sp && (nat_eq p.pc q.pc
    && (beq p.n q.n && (beq p.v q.v && (beq p.d q.d && (beq p.i q.i && (beq p.z q.z && beq p.c q.c)))))))))

beq_is : (a b : Bool) → beq a b ≡ true → a ≡ b
beq_is true true e = refl
beq_is true false e = cc
beq_is false true e = cc
beq_is false false e = refl

beq_self : (a : Bool) → beq a a ≡ true
beq_self true = refl
beq_self false = refl

abbrev cpu_of : ℕ → ℕ → ℕ → ℕ → ℕ → Bool → Bool → Bool → Bool → Bool → Bool → Cpu
cpu_of a x y sp pc n v d i z c =
    record { a = a; x = x; y = y; sp = sp; pc = pc; n = n; v = v; d = d; i = i; z = z; c = c }

pub cpus_are_one : (p q : Cpu) → same_cpu p q ≡ true → p ≡ q
cpus_are_one p q e =
    let a = and_parts _ _ e in
    let x = and_parts _ _ a.1 in
    let y = and_parts _ _ x.1 in
    let sp = and_parts _ _ y.1 in
    let pc = and_parts _ _ sp.1 in
    let n = and_parts _ _ pc.1 in
    let v = and_parts _ _ n.1 in
    let d = and_parts _ _ v.1 in
    let i = and_parts _ _ d.1 in
    let z = and_parts _ _ i.1 in
    let same : cpu_of p.a p.x p.y p.sp p.pc p.n p.v p.d p.i p.z p.c
    ≡ cpu_of q.a q.x q.y q.sp q.pc q.n q.v q.d q.i q.z q.c =
    rw (
      eqb-true p.a q.a a.0,
      eqb-true p.x q.x x.0,
      eqb-true p.y q.y y.0,
      eqb-true p.sp q.sp sp.0,
      eqb-true p.pc q.pc pc.0,
      beq_is p.n q.n n.0,
      beq_is p.v q.v v.0,
      beq_is p.d q.d d.0,
      beq_is p.i q.i i.0,
      beq_is p.z q.z z.0,
      beq_is p.c q.c z.1,
    ) refl in
    same

pub same_self : (p : Cpu) → same_cpu p p ≡ true
same_self p =
    rw (
      eq-eqb p.a p.a refl,
      eq-eqb p.x p.x refl,
      eq-eqb p.y p.y refl,
      eq-eqb p.sp p.sp refl,
      eq-eqb p.pc p.pc refl,
      beq_self p.n,
      beq_self p.v,
      beq_self p.d,
      beq_self p.i,
      beq_self p.z,
      beq_self p.c,
    ) refl

pub machines_are_one : (one other : Machine) → one.cpu ≡ other.cpu → one.memory ≡ other.memory → one ≡ other
machines_are_one one other cpu memory =
    let first : one ≡ record { cpu = other.cpu; memory = one.memory } =
    ap (λ c. record { cpu = c; memory = one.memory }) cpu in
    first ∙ ap (λ m. record { cpu = other.cpu; memory = m }) memory
