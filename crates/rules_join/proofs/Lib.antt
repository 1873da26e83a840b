mod RangeSteps
